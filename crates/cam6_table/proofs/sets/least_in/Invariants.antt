use Rattle.std.proofs.Common.{◌≤◌, ◌<◌, ℕ, slice_index}
use Rattle.cam6_table.specs.Internal.Sets.{IsIn}
use Rattle.cam6_table.proofs.sets.least_in.Given as goal

abbrev pub invariant-loop-lane : goal.invariant-loop-lane
invariant-loop-lane l = (k : ℕ) → k < l.lane → IsIn l.set k → l.least ≤ slice_index l.values k
