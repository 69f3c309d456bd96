-- When a program does for the entries of a table under a wiring.
use Rattle.std.specs.Prelude.{ℕ, ◌+◌, ◌*◌, ◌/◌, ◌%◌, ◌≡◌, List, map}
use Rattle.cam6_wiring.specs.Seen.{Sees, line_shows, address_of}
use Rattle.cam6_wiring.specs.Wiring.{names_of}
use Rattle.cam6_wiring.specs.declared.names.Level.{Level}
use Rattle.cam6_wiring.specs.declared.wirings.Hood.{Hood}
use Rattle.cam6_wiring.specs.declared.wirings.Minor.{Minor}
use Rattle.cam6_lookup.specs.Entries.{entry_bit}
use Rattle.cam6_program.specs.Meaning.{bit_by}
use Rattle.cam6_program.specs.Programs.{Steps, number}

-- whatever a cell sees under the names of its lines, the program makes the two bits of the entry at
-- the address that the cell shows
abbrev pub ComputesUnder : Hood → Minor → List ℕ → Steps → Type 0
ComputesUnder hood minor entries program = (level : Level) (sees : Sees) →
    bit_by level program (map (line_shows sees) (names_of hood minor))
    ≡ entry_bit entries (address_of hood minor sees) (number level)

-- the address that shows 0 on lines 8 and 9, and the same on the others
abbrev pub without_lines_8_and_9 : ℕ → ℕ
without_lines_8_and_9 address = 1024 * (address / 1024) + address % 256
