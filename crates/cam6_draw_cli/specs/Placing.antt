-- Where a pattern is set.
use Rattle.std.specs.Prelude.{ℕ, ◌-◌, List}
use Rattle.cam6_planes.specs.Limits.{max_columns}
use Rattle.cam6_planes.specs.declared.sides.Side.{Side}

-- the last column, or row, by which a pattern is moved
abbrev pub last_move : ℕ
last_move = max_columns - 1

-- a torus of this side, by how many columns and rows a pattern is moved on it, and its planes
pub record Placing : Type 0 where
  pub side : Side
  pub column : ℕ
  pub row : ℕ
  pub planes : List ℕ
