use Rattle.std.proofs.Common.{length, ◌≡◌, ◌<◌, ◌≤◌, ℕ, slice_index}
use Rattle.cam6_table.specs.Internal.Sets.{IsIn, IsOut}
use Rattle.cam6_table.specs.declared.lane_values.TheConstants.{LANES}
use Rattle.cam6_table.proofs.sets.chosen_from.Given as goal

abbrev pub invariant-loop-lane : goal.invariant-loop-lane
invariant-loop-lane l = record {
  lanes : length l.values ≡ LANES;
  inside : (k : ℕ) → k < l.lane → IsIn l.set k → slice_index l.ends k ≤ l.row → slice_index l.values k ≡ slice_index l.new k;
  under : (k : ℕ) → k < l.lane → IsIn l.set k → l.row < slice_index l.ends k → slice_index l.values k ≡ slice_index l.old k;
  outside : (k : ℕ) → k < l.lane → IsOut l.set k → slice_index l.values k ≡ slice_index l.old k;
}
