use Rattle.std.proofs.Common.{◌≡◌, ◌<◌, ℕ, length, slice_index}
use Rattle.cam6_table.specs.declared.lane_values.TheConstants.{LANES}
use Rattle.cam6_table.proofs.filling.group_addresses.Given as goal

-- the addresses so far are those of a table
abbrev pub invariant-loop-lane : goal.invariant-loop-lane
invariant-loop-lane l = record {
  lanes : length l.at ≡ LANES;
  within : (k : ℕ) → k < l.lane → slice_index l.at k < 4096;
}
