use Rattle.std.proofs.Common.{◌≡◌, length}
use Rattle.std.specs.List.{list_all}
use Rattle.cam6_draw_cli.specs.RleWords.{is_plane_digit}
use Rattle.cam6_draw_cli.proofs.rle_cli.are_plane_digits.Given as goal

abbrev pub invariant-loop-rest : goal.invariant-loop-rest
invariant-loop-rest l = list_all is_plane_digit l.bytes ≡ list_all is_plane_digit l.rest

abbrev pub decreases-loop-rest : goal.decreases-loop-rest
decreases-loop-rest l = length l.rest
