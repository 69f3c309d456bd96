-- Cycles, and the ways along them.
use Rattle.std.specs.Prelude.{ℕ, zero, suc, ◌+◌, ◌-◌, ◌%◌, ◌&&◌, Bool, List, length, nat_le}
use Rattle.std.specs.Prelude.{Result, Ok, Err, if◌then◌else◌}
use Rattle.cam6_cycle.specs.Limits.{max_entries}
use Rattle.cam6_cycle.specs.declared.cycles.CycleFault.{CycleFault}
use Rattle.cam6_cycle.specs.declared.entries.Entry.{Entry}
use Rattle.cam6_cycle.specs.declared.tables.Direction.{Direction}
use Rattle.cam6_cycle.specs.declared.tables.Direction.TheVariants.{Forward, Backward}

-- 1 to 16 entries are a cycle
abbrev pub is_cycle : List Entry → Bool
is_cycle entries = nat_le 1 (length entries) && nat_le (length entries) max_entries

-- the cycle of entries, if they are one
abbrev pub cycle_of : List Entry → Result (List Entry) CycleFault
cycle_of entries = if is_cycle entries then Ok entries else Err (record {})

-- the position after this one among n, where the first follows the last
abbrev pub next : ℕ → ℕ → ℕ
next n position = (position + 1) % n

-- the position before this one among n, where the last stands before the first
abbrev pub previous : ℕ → ℕ → ℕ
previous n zero = n - 1
previous n (suc position) = position

-- the index of the entry that a step this way from a position uses
abbrev pub entry_index : Direction → ℕ → ℕ → ℕ
entry_index Forward length position = position
entry_index Backward length position = previous length position

-- the position after a step this way
abbrev pub position_after : Direction → ℕ → ℕ → ℕ
position_after Forward length position = next length position
position_after Backward length position = previous length position
