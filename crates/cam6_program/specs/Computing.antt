-- When a program computes a list of entries.
use Rattle.std.specs.Prelude.{ℕ, Bool, List, length, ◌≡◌}
use Rattle.cam6_wiring.specs.Seen.{number_of}
use Rattle.cam6_wiring.specs.declared.names.Level.{Level}
use Rattle.cam6_wiring.specs.declared.wirings.TheConstants.{LINES}
use Rattle.cam6_lookup.specs.Entries.{entry_bit}
use Rattle.cam6_program.specs.Meaning.{bit_by}
use Rattle.cam6_program.specs.Programs.{Steps, number}

-- whatever the twelve lines show, the program makes the two bits of the entry at that address
abbrev pub Computes : List ℕ → Steps → Type 0
Computes entries program =
    (level : Level) (bits : List Bool) → length bits ≡ LINES →
    bit_by level program bits ≡ entry_bit entries (number_of bits) (number level)
