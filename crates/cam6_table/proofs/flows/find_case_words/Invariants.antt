use Rattle.std.proofs.Common.{◌≡◌, ◌<◌, ◌≤◌, ◌-◌, ℕ, Some, length, slice_index}
use Rattle.cam6_table.specs.declared.lane_values.TheConstants.{LANES}
use Rattle.cam6_table.specs.declared.outputs.State.{State}
use Rattle.cam6_table.specs.Internal.Sets.{IsIn, IsOut}
use Rattle.cam6_table.specs.Internal.Lanes.{outcome_from, LeadsTo}
use Rattle.cam6_table.proofs.flows.find_case_words.Given as goal

-- lanes with the indices so far are at their words, and the search for others goes on
abbrev pub invariant-loop-index : goal.invariant-loop-index
invariant-loop-index l = record {
  remaining : l.remaining ≤ length l.code;
  within : (lane : ℕ) → lane < LANES → IsIn l.set lane → slice_index l.indices lane < l.index →
      slice_index l.remaining_by_lane lane ≤ length l.code;
  found : (lane : ℕ) → lane < LANES → IsIn l.set lane → slice_index l.indices lane < l.index →
      LeadsTo l.code l.from (slice_index l.indices lane) (slice_index l.remaining_by_lane lane);
  others : (lane : ℕ) → lane < LANES → IsOut l.set lane →
      slice_index l.remaining_by_lane lane ≡ slice_index l.old lane;
  goes_on : (word : ℕ) → l.index ≤ word → (address : ℕ) (s : State) →
      outcome_from address l.code (record { remaining = l.remaining; word = Some (word - l.index) }) s
      ≡ outcome_from address l.code (record { remaining = l.from; word = Some word }) s;
}
