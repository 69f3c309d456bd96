-- Patterns: cells in states, from the upper left corner.
use Rattle.std.specs.Prelude.{◌<◌, ◌≤◌, ℕ, List, [], length, slice_index, get_or, All}
use Rattle.std.specs.List.{AllByRecursion}
use Rattle.cam6_planes.specs.Limits.{max_columns}

-- the most columns and rows of a pattern, and of a torus
abbrev pub most_cells : ℕ
most_cells = max_columns

-- the most states of a cell
abbrev pub most_states : ℕ
most_states = 16

-- columns and rows; where on a torus the upper left corner lies; and the cells of each row, from the
-- top: cells and rows that are left out are 0
pub record Pattern : Type 0 where
  pub width : ℕ
  pub height : ℕ
  pub column : ℕ
  pub row : ℕ
  pub rows : List (List ℕ)

-- the state at a column and a row
abbrev pub state_in : List (List ℕ) → ℕ → ℕ → ℕ
state_in rows x y = slice_index (get_or rows y []) x

-- no more rows and columns than it says, which a torus may have, and no more states
pub record IsPattern (states : ℕ) (p : Pattern) : Type 0 where
  pub width : p.width ≤ most_cells
  pub height : p.height ≤ most_cells
  pub column : p.column < most_cells
  pub row : p.row < most_cells
  pub high : length p.rows ≤ p.height
  pub wide : All (λ row. length row ≤ p.width) p.rows
  pub few : All (AllByRecursion (λ state. state < states)) p.rows
