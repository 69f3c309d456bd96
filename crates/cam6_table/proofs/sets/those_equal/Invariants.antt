use Rattle.std.proofs.Common.{length, ◌≡◌, ◌==◌, ◌<◌, ℕ, slice_index, if◌then◌else◌}
use Rattle.cam6_table.specs.declared.lane_values.TheConstants.{LANES}
use Rattle.cam6_table.proofs.sets.those_equal.Given as goal

abbrev pub invariant-loop-lane : goal.invariant-loop-lane
invariant-loop-lane l = record {
  lanes : length l.those ≡ LANES;
  each : (k : ℕ) → k < l.lane →
      slice_index l.those k ≡ (if slice_index l.values k == slice_index l.others k then slice_index l.set k else 0);
}
