-- The limit of a row.
use Rattle.std.specs.Prelude.{ℕ}

-- the most columns of a torus, and so the most rows
abbrev pub max_columns : ℕ
max_columns = 512
