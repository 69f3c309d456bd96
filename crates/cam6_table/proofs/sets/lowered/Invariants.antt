use Rattle.std.proofs.Common.{length, ◌≡◌, ◌<◌, ◌≤◌, ◌+◌, ℕ, slice_index}
use Rattle.cam6_table.specs.Internal.Sets.{IsIn, IsOut}
use Rattle.cam6_table.specs.declared.lane_values.TheConstants.{LANES}
use Rattle.cam6_table.proofs.sets.lowered.Given as goal

abbrev pub invariant-loop-lane : goal.invariant-loop-lane
invariant-loop-lane l = record {
  lanes : length l.rests ≡ LANES;
  inside : (k : ℕ) → k < l.lane → IsIn l.set k → l.by ≤ slice_index l.values k → slice_index l.rests k + l.by ≡ slice_index l.values k;
  outside : (k : ℕ) → k < l.lane → IsOut l.set k → slice_index l.rests k ≡ slice_index l.values k;
}
