-- The frames that lines of replies show, and how they end.
use Rattle.std.specs.Prelude.{ℕ, ◌+◌, List, [], ◌∷◌, Option, Some, None}
use Rattle.cam6_show_frames.specs.declared.replies.ReplyCells.{ReplyCells}
use Rattle.cam6_show_frames.specs.Replies.{said}
use Rattle.cam6_show_frames.specs.Run.{Taken, taken}

-- all lines are replies, and no frame breaks off; or the number, counted from 1, of the first line
-- that is no reply or at which a frame breaks off: at the end, the number of lines
pub data Verdict : Type 0 where
  whole : Verdict
  no_reply : ℕ → Verdict
  breaks_off : ℕ → Verdict

-- frames, and how they end
pub record Course : Type 0 where
  pub frames : List (List (List ℕ))
  pub verdict : Verdict

-- no more frames come
abbrev pub over : Verdict → Course
over verdict = record { frames = []; verdict = verdict }

-- what comes after n lines, with these rows under way, if no line is left
abbrev pub at_end : ℕ → List (List ℕ) → Course
at_end n [] = over whole
at_end n (row ∷ rows) = over (breaks_off n)

-- a frame, if there is one, and what comes after it
abbrev pub after_frame : Option (List (List ℕ)) → Course → Course
after_frame None later = later
after_frame (Some frame) later =
    record { frames = frame ∷ later.frames; verdict = later.verdict }

-- what line n makes of the rows, and then what comes later; or the frame breaks off at it
abbrev pub on_taken : ℕ → Option Taken → (ℕ → List (List ℕ) → Course) → Course
on_taken n None later = over (breaks_off n)
on_taken n (Some t) later = after_frame t.frame (later n t.rows)

-- what line n says, and then what comes later; or it is no reply
abbrev pub on_said : ℕ → List (List ℕ) → Option ReplyCells → (ℕ → List (List ℕ) → Course) → Course
on_said n rows None later = over (no_reply n)
on_said n rows (Some s) later = on_taken n (taken rows s) later

-- what lines show after n others, with these rows under way
abbrev pub course : List (List ℕ) → ℕ → List (List ℕ) → Course
course [] n rows = at_end n rows
course (line ∷ later) n rows = on_said (n + 1) rows (said line) (course later)
