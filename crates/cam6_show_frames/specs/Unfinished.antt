-- Rows that may become a frame, and the row that may come after them.
use Rattle.std.specs.Prelude.{◌<◌, ℕ, List, [], ◌∷◌, length, ◌==◌, Bool, true, All}
use Rattle.cam6_planes.specs.declared.sides.Side.{Side}
use Rattle.cam6_planes.specs.Side.{side_number}
use Rattle.cam6_show_frames.specs.Frame.{IsRowOf}

-- rows of one side, fewer than each has columns
abbrev pub IsUnfinished : List (List ℕ) → Type 0
IsUnfinished rows = (side : Side) × (length rows < side_number side) × All (IsRowOf side) rows

-- whether a row is as long as those before it, if there are some
abbrev pub goes_on : List (List ℕ) → List ℕ → Bool
goes_on [] row = true
goes_on (first ∷ rows) row = length row == length first
