use Rattle.std.proofs.Common.{◌≡◌, ◌++◌, ◌∙◌, ap, arith, flat_map, sym}
use Rattle.std.specs.List.{range_with_len}
use Rattle.cam6_show_pictures.specs.Look.{pixels_wide}
use Rattle.cam6_show_pictures.specs.Netpbm.{light_bytes, pixel_row}
use Rattle.cam6_show_pictures.proofs.Pieces.{piece_more}
use Rattle.cam6_show_pictures.proofs.Pushes.{pixel}
use Rattle.cam6_show_pictures.proofs.netpbm.pixel_row.Goals as goal

pub loop-i-preserved : goal.loop-i-preserved
loop-i-preserved c =
    let look = c.args.look.now in
    let frame = c.args.frame.now in
    c.in_ok-push_light.ensures
    ∙ ap (λ l. l ++ light_bytes c.light.result) c.loop-i.invariant
    ∙ ap (λ l. flat_map (pixel look frame c.args.j) (range_with_len 0 c.loop-i.i) ++ light_bytes l)
    c.light.ensures
    ∙ sym (piece_more (pixel look frame c.args.j) c.loop-i.i)

pub returns : goal.returns
unfolding pixel_row
returns c =
    let all : c.loop-i.i ≡ pixels_wide c.args.look.now c.args.frame.now = omega arith in
    c.loop-i.invariant
    ∙ ap (λ n. flat_map (pixel c.args.look.now c.args.frame.now c.args.j) (range_with_len 0 n)) all
