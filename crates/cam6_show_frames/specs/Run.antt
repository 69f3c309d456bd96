-- Rows of colours one after another, until they are a frame.
use Rattle.std.specs.Prelude.{ℕ, List, [], ◌∷◌, ◌++◌, length, ◌==◌, if◌then◌else◌}
use Rattle.std.specs.Prelude.{Option, Some, None, get_or}
use Rattle.cam6_show_frames.specs.declared.replies.ReplyCells.{ReplyCells}
use Rattle.cam6_show_frames.specs.declared.replies.ReplyCells.TheVariants.{Colours, Plane, Other}

-- the rows of a frame under way, and the frame that was just completed, if one was
pub record Taken : Type 0 where
  pub rows : List (List ℕ)
  pub frame : Option (List (List ℕ))

-- as many rows as the first has columns are a frame
abbrev pub gathered : List (List ℕ) → Taken
gathered rows =
    if length rows == length (get_or rows 0 [])
    then record { rows = []; frame = Some rows } else record { rows = rows; frame = None }

-- what a reply makes of the rows under way; none, if the frame breaks off: a row has another length
-- than those before it, or something else comes before the last row
abbrev pub taken : List (List ℕ) → ReplyCells → Option Taken
taken [] (Colours row) = Some (gathered (row ∷ []))
taken [] (Plane frame) = Some (record { rows = []; frame = Some frame })
taken [] Other = Some (record { rows = []; frame = None })
taken (first ∷ rows) (Colours row) =
    if length row == length first then Some (gathered ((first ∷ rows) ++ row ∷ [])) else None
taken (first ∷ rows) (Plane frame) = None
taken (first ∷ rows) Other = None
