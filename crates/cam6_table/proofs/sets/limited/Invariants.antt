use Rattle.std.proofs.Common.{length, ◌≡◌, ◌<◌, ◌≤◌, ℕ, slice_index}
use Rattle.cam6_table.specs.Internal.Sets.{IsIn, IsOut}
use Rattle.cam6_table.specs.declared.lane_values.TheConstants.{LANES}
use Rattle.cam6_table.proofs.sets.limited.Given as goal

abbrev pub invariant-loop-lane : goal.invariant-loop-lane
invariant-loop-lane l = record {
  lanes : length l.least ≡ LANES;
  low : (k : ℕ) → k < l.lane → IsIn l.set k → slice_index l.values k ≤ l.limit → slice_index l.least k ≡ slice_index l.values k;
  high : (k : ℕ) → k < l.lane → IsIn l.set k → l.limit ≤ slice_index l.values k → slice_index l.least k ≡ l.limit;
  outside : (k : ℕ) → k < l.lane → IsOut l.set k → slice_index l.least k ≡ slice_index l.values k;
}
