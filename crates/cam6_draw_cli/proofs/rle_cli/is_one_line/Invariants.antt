use Rattle.std.proofs.Common.{◌≡◌, length}
use Rattle.cam6_draw_cli.specs.RleWords.{is_one_line}
use Rattle.cam6_draw_cli.proofs.rle_cli.is_one_line.Given as goal

abbrev pub invariant-loop-rest : goal.invariant-loop-rest
invariant-loop-rest l = is_one_line l.bytes ≡ is_one_line l.rest

abbrev pub decreases-loop-rest : goal.decreases-loop-rest
decreases-loop-rest l = length l.rest
