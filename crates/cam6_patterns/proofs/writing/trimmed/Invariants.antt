use Rattle.std.proofs.Common.{◌≡◌, length}
use Rattle.cam6_patterns.specs.Writing.{trimmed}
use Rattle.cam6_patterns.proofs.writing.trimmed.Given as goal

abbrev pub invariant-loop-last : goal.invariant-loop-last
invariant-loop-last l = trimmed l.cells ≡ trimmed l.row

abbrev pub decreases-loop-last : goal.decreases-loop-last
decreases-loop-last l = length l.cells
