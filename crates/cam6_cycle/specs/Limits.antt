-- The limits of a cycle.
use Rattle.std.specs.Prelude.{ℕ}

-- the most entries of a cycle
abbrev pub max_entries : ℕ
max_entries = 16

-- the most tables that a cycle needs: one for each half of each entry
abbrev pub max_tables : ℕ
max_tables = 32
