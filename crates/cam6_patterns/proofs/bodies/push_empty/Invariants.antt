use Rattle.std.proofs.Common.{◌≡◌, ◌++◌, [], replicate}
use Rattle.cam6_patterns.proofs.bodies.push_empty.Given as goal

abbrev pub invariant-loop-row : goal.invariant-loop-row
invariant-loop-row l = l.rows.items ≡ l.fn.rows.items ++ replicate l._row []
