-- The limit of a table.
use Rattle.std.specs.Prelude.{ℕ}

-- addresses of twelve lines, and so entries of a table
abbrev pub addresses : ℕ
addresses = 4096
