use Rattle.std.proofs.Common.{length, ◌≡◌, ◌%◌, ◌<◌, ℕ, slice_index}
use Rattle.cam6_table.specs.declared.lane_values.TheConstants.{LANES}
use Rattle.cam6_table.proofs.lane_values.lowest_bits.Given as goal

abbrev pub invariant-loop-lane : goal.invariant-loop-lane
invariant-loop-lane l = record {
  lanes : length l.bits ≡ LANES;
  each : (k : ℕ) → k < l.lane →
      slice_index l.bits k ≡ slice_index l.values k % 2;
}
