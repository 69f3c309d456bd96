-- Rows of cells in colours, and frames: as many rows as a row has columns.
use Rattle.std.specs.Prelude.{◌≡◌, ◌<◌, ℕ, ◌%◌, List, [], length, slice_index, get_or, All}
use Rattle.std.specs.List.{AllByRecursion}
use Rattle.cam6_planes.specs.declared.sides.Side.{Side}
use Rattle.cam6_planes.specs.Side.{side_number}

-- how many colours there are
abbrev pub colours : ℕ
colours = 16

-- a colour for each column of a row of this side
abbrev pub IsRowOf : Side → List ℕ → Type 0
IsRowOf side row =
    (length row ≡ side_number side) × AllByRecursion (λ colour. colour < colours) row

-- the rows of a torus, from row 0 on
abbrev pub IsFrame : List (List ℕ) → Type 0
IsFrame rows = (side : Side) × (length rows ≡ side_number side) × All (IsRowOf side) rows

-- the colour at column x of row y, round the torus
unfoldable pub colour_at : List (List ℕ) → ℕ → ℕ → ℕ
colour_at rows x y = slice_index (get_or rows (y % length rows) []) (x % length rows)
