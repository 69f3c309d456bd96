use Rattle.std.proofs.Common.{◌≡◌, ◌<◌, ℕ, [], get_or, replicate}
use Rattle.cam6_planes.specs.declared.row.TheConstants.{WORDS}
use Rattle.cam6_planes.proofs.planes.clear.Given as goal

abbrev pub invariant-loop-row : goal.invariant-loop-row
invariant-loop-row l =
    (y : ℕ) → y < l.row-index → get_or l.row-items y [] ≡ replicate 4 (replicate WORDS 0)
