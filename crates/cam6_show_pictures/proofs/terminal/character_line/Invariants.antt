use Rattle.std.proofs.Common.{◌≡◌, flat_map}
use Rattle.std.specs.List.{range_with_len}
use Rattle.cam6_show_pictures.specs.Terminal.{character}
use Rattle.cam6_show_pictures.proofs.terminal.character_line.Given as goal

abbrev pub invariant-loop-i : goal.invariant-loop-i
invariant-loop-i l =
    l.line.items ≡ flat_map (character l.look l.frame l.k) (range_with_len 0 l.i)
