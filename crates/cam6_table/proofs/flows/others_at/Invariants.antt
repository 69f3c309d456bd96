use Rattle.std.proofs.Common.{length, ◌≡◌, ◌==◌, ◌&&◌, ◌<◌, ℕ, slice_index}
use Rattle.cam6_table.specs.Internal.Sets.{IsOther}
use Rattle.cam6_table.specs.declared.lane_values.TheConstants.{LANES}
use Rattle.cam6_table.proofs.flows.others_at.Given as goal

abbrev pub invariant-loop-lane : goal.invariant-loop-lane
invariant-loop-lane l = record {
  lanes : length l.those ≡ LANES;
  each : (k : ℕ) → k < l.lane → IsOther (slice_index l.those k) (slice_index l.set k)
      (slice_index l.places.remaining_by_lane k == l.remaining && slice_index l.places.tops k == l.top);
}
