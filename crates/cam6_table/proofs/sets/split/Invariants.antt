use Rattle.std.proofs.Common.{length, ◌≡◌, ◌==◌, ◌≤◌, ◌<◌, ℕ, slice_index, if◌then◌else◌}
use Rattle.cam6_table.specs.declared.lane_values.TheConstants.{LANES}
use Rattle.cam6_table.proofs.sets.split.Given as goal

abbrev pub invariant-loop-lane : goal.invariant-loop-lane
invariant-loop-lane l = record {
  lanes : length l.zeros ≡ LANES;
  other_lanes : length l.others ≡ LANES;
  each : (k : ℕ) → k < l.lane →
      slice_index l.zeros k ≡ (if slice_index l.values k == 0 then slice_index l.set k else 0);
  each_other : (k : ℕ) → k < l.lane →
      slice_index l.others k ≡ (if slice_index l.values k == 0 then 0 else slice_index l.set k);
  most : (k : ℕ) → k < l.lane → slice_index l.zeros k ≤ l.some_zeros;
  most_other : (k : ℕ) → k < l.lane → slice_index l.others k ≤ l.some_others;
}
