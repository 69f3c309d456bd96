use Rattle.std.proofs.Common.{◌≡◌, ◌<◌, ℕ}
use Rattle.cam6_table.specs.Internal.Sets.{IsIn}
use Rattle.cam6_table.proofs.sets.is_all.Given as goal

abbrev pub invariant-loop-lane : goal.invariant-loop-lane
invariant-loop-lane l = l.missing ≡ 0 → (k : ℕ) → k < l.lane → IsIn l.set k
