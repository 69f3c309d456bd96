use Rattle.std.proofs.Common.{◌∙◌, arith}
use Rattle.cam6_show_pictures.specs.Look.{pixels_high}
use Rattle.cam6_show_pictures.specs.Netpbm.{pixel_row}
use Rattle.cam6_show_pictures.proofs.Pieces.{front_at_fault, pieces_more, some_pieces, some_pieces_more}
use Rattle.cam6_show_pictures.proofs.netpbm.write_rows.Goals as goal

pub returns-in_default : goal.returns-in_default
returns-in_default g c =
    some_pieces (pixel_row c.args.look.now c.args.frame.now)
    (pixels_high c.args.look.now c.args.frame.now) c.loop-j.j
    (g.W.Write.contents c.args.writer.now) (g.W.Write.contents c.loop-j.writer) (omega arith)
    c.loop-j.invariant

pub returns-in_err-write_bytes : goal.returns-in_err-write_bytes
returns-in_err-write_bytes g c =
    front_at_fault _ _ _ _ c.from_residual.ensures.0
    (some_pieces_more (pixel_row c.args.look.now c.args.frame.now)
    (pixels_high c.args.look.now c.args.frame.now) c.loop-j.j
    (g.W.Write.contents c.args.writer.now) (g.W.Write.contents c.loop-j.writer)
    (g.W.Write.contents c.write_bytes.new.writer) (omega arith)
    c.as_slice.result.now (c.as_slice.ensures.value ∙ c.in-Ok.ensures) c.loop-j.invariant
    c.in_err-write_bytes.ensures)

pub loop-j-preserved : goal.loop-j-preserved
loop-j-preserved g c =
    pieces_more (pixel_row c.args.look.now c.args.frame.now) c.loop-j.j
    (g.W.Write.contents c.args.writer.now) (g.W.Write.contents c.loop-j.writer)
    (g.W.Write.contents c.write_bytes.new.writer)
    c.as_slice.result.now (c.as_slice.ensures.value ∙ c.in-Ok.ensures) c.loop-j.invariant
    c.in_ok-write_bytes.ensures
