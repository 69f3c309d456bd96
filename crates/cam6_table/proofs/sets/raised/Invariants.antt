use Rattle.std.proofs.Common.{length, ◌≡◌, ◌<◌, ◌+◌, ℕ, slice_index}
use Rattle.cam6_table.specs.Internal.Sets.{IsIn, IsOut}
use Rattle.cam6_table.specs.declared.lane_values.TheConstants.{LANES}
use Rattle.cam6_table.proofs.sets.raised.Given as goal

abbrev pub invariant-loop-lane : goal.invariant-loop-lane
invariant-loop-lane l = record {
  lanes : length l.sums ≡ LANES;
  inside : (k : ℕ) → k < l.lane → IsIn l.set k → slice_index l.values k + l.by < 65536 → slice_index l.sums k ≡ slice_index l.values k + l.by;
  outside : (k : ℕ) → k < l.lane → IsOut l.set k → slice_index l.sums k ≡ slice_index l.values k;
}
