use Rattle.std.proofs.Common.{◌≡◌, flat_map}
use Rattle.std.specs.List.{range_with_len}
use Rattle.cam6_show_pictures.proofs.Pushes.{pixel}
use Rattle.cam6_show_pictures.proofs.netpbm.pixel_row.Given as goal

abbrev pub invariant-loop-i : goal.invariant-loop-i
invariant-loop-i l =
    l.pixels.items ≡ flat_map (pixel l.look l.frame l.j) (range_with_len 0 l.i)
