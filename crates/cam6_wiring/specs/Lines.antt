-- The rows that the cells of a row see, the rows of bits on their address lines, and the address
-- that these show at a column.
use Rattle.std.specs.Prelude.{ℕ, Bool, List, map}
use Rattle.cam6_planes.specs.Cells.{Cells, torus, IsRow}
use Rattle.cam6_planes.specs.Row.{column_bit, west_of, east_of}
use Rattle.cam6_planes.specs.Side.{side_number}
use Rattle.cam6_wiring.specs.Seen.{Sees, seen, number_of}
use Rattle.cam6_wiring.specs.declared.neighbours.Setting.{Setting}
use Rattle.cam6_wiring.specs.declared.rows.Rows.{Rows}

-- these are, of planes f, row y with the rows to its north and to its south round the torus
pub record AreRowsAround (f : Cells) (y : ℕ) (rows : Rows) : Type 0 where
  pub north : IsRow (side_number rows.side) f (west_of (side_number rows.side) y) rows.north.now
  pub here : IsRow (side_number rows.side) f y rows.here.now
  pub south : IsRow (side_number rows.side) f (east_of (side_number rows.side) y) rows.south.now

-- what the cell at column x of row y sees under each name, on a torus of side s of f's cells
abbrev pub sees_at : ℕ → Cells → Setting → ℕ → ℕ → Sees
sees_at s f setting x y name = seen s (torus s f) setting name x y

-- what each line shows at column x, the lowest line first
abbrev pub at_column : ℕ → List (List ℕ) → List Bool
at_column x lines = map (λ line. column_bit line x) lines

-- the address that lines show at column x
abbrev pub address_in : List (List ℕ) → ℕ → ℕ
address_in lines x = number_of (at_column x lines)
