use Rattle.std.proofs.Common.{◌≡◌, length}
use Rattle.cam6_draw_cli.specs.RleWords.{are_different}
use Rattle.cam6_draw_cli.proofs.rle_cli.are_different.Given as goal

abbrev pub invariant-loop-rest : goal.invariant-loop-rest
invariant-loop-rest l = are_different l.bytes ≡ are_different l.rest

abbrev pub decreases-loop-rest : goal.decreases-loop-rest
decreases-loop-rest l = length l.rest
