use Rattle.std.proofs.Common.{◌≡◌, replicate}
use Rattle.cam6_planes.specs.declared.row.TheConstants.{WORDS}
use Rattle.cam6_planes.proofs.planes.Planes.blank.Given as goal

abbrev pub invariant-loop-y : goal.invariant-loop-y
invariant-loop-y l = l.rows.items ≡ replicate l._y (replicate 4 (replicate WORDS 0))
