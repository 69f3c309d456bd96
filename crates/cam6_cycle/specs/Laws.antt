-- What follows of cycles.
use Rattle.std.specs.Prelude.{◌≡◌, ◌<◌, ◌≤◌, ◌+◌, ℕ, List, length, take, Some}
use Rattle.std.specs.List.{slice_get}
use Rattle.cam6_wiring.specs.declared.names.Half.TheVariants.{A, B}
use Rattle.cam6_cycle.specs.Limits.{max_entries, max_tables}
use Rattle.cam6_cycle.specs.Along.{entry_index, position_after}
use Rattle.cam6_cycle.specs.Tables.{needed_for, tables_needed}
use Rattle.cam6_cycle.specs.declared.entries.Entry.{Entry}
use Rattle.cam6_cycle.specs.declared.entries.HalfRule.{HalfRule}
use Rattle.cam6_cycle.specs.declared.tables.Direction.{Direction}
use Rattle.cam6_cycle.specs.declared.tables.Direction.TheVariants.{Forward, Backward}

-- the way back
abbrev pub other_way : Direction → Direction
other_way Forward = Backward
other_way Backward = Forward

-- going one way and then the other leads to the same position, by the same entry
abbrev pub UndoEachOther : Type 0
UndoEachOther =
    (direction : Direction) (n position : ℕ) → position < n →
    let after = position_after direction n position in
    (position_after (other_way direction) n after ≡ position)
    × (entry_index (other_way direction) n after ≡ entry_index direction n position)

-- a cycle's tables have room among 32
abbrev pub AreFew : Type 0
AreFew =
    (direction : Direction) (entries : List Entry) → length entries ≤ max_entries →
    length (tables_needed direction entries) ≤ max_tables

-- after the tables of the entries before it stand an entry's own, half A's first
abbrev pub HaveTheirTables : Type 0
HaveTheirTables =
    (direction : Direction) (entries : List Entry) (position : ℕ) (entry : Entry) →
    slice_get entries position ≡ Some entry →
    let before = length (tables_needed direction (take position entries)) in
    let after_a = before + length (needed_for direction A entry.a) in
    ((rule : HalfRule) → entry.a ≡ Some rule →
    slice_get (tables_needed direction entries) before
    ≡ Some (record { half = A; rule = rule; direction = direction })) ×
    ((rule : HalfRule) → entry.b ≡ Some rule →
    slice_get (tables_needed direction entries) after_a
    ≡ Some (record { half = B; rule = rule; direction = direction }))
