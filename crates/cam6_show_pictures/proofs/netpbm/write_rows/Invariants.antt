use Rattle.std.proofs.Common.{flat_map}
use Rattle.std.specs.List.{range_with_len}
use Rattle.std.specs.Io.KnownBytes.{Appends}
use Rattle.cam6_show_pictures.specs.Netpbm.{pixel_row}
use Rattle.cam6_show_pictures.proofs.netpbm.write_rows.Given as goal

abbrev pub invariant-loop-j : goal.invariant-loop-j
invariant-loop-j g l =
    Appends (g.W.Write.contents l.fn.writer) (g.W.Write.contents l.writer)
    (flat_map (pixel_row l.look l.frame) (range_with_len 0 l.j))
