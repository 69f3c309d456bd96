-- The pattern of a run-length text.
use Rattle.std.specs.Prelude.{ℕ, ◌+◌, List, [], ◌∷◌, length, ◌==◌, nat_lt, if◌then◌else◌}
use Rattle.std.specs.Prelude.{Option, Some, None, Result, Ok, Err}
use Rattle.cam6_show_frames.specs.Lines.{lines}
use Rattle.cam6_patterns.specs.Pattern.{Pattern}
use Rattle.cam6_patterns.specs.Faults.{fault}
use Rattle.cam6_patterns.specs.Header.{past_blanks, extents_in, corner_in, if_none}
use Rattle.cam6_patterns.specs.Body.{Bounds, Read, nothing_read, Step, more, over, whole_line_read}
use Rattle.cam6_patterns.specs.declared.faults.PatternFault.{PatternFault}
use Rattle.cam6_patterns.specs.declared.faults.Cause.TheVariants.{NoHeader, NoEnd, TooWide, TooHigh}

-- how far a text was read: before the header, with what remarks said; or within the cells; or to its end
pub data Stage : Type 0 where
  before : Option (ℕ × ℕ) → Stage
  within : Pattern → Bounds → Read → Stage
  done : Pattern → Stage

-- a pattern without its rows
abbrev pub box : Option (ℕ × ℕ) → ℕ × ℕ → Pattern
box None extents = record { width = extents.0; height = extents.1; column = 0; row = 0; rows = [] }
box (Some corner) extents = record {
  width = extents.0;
  height = extents.1;
  column = corner.0;
  row = corner.1;
  rows = [];
}

-- the header: the pattern is no wider and no higher than a torus of this side
abbrev pub on_header : ℕ → ℕ → ℕ → Option (ℕ × ℕ) → Option (ℕ × ℕ) → Result Stage PatternFault
on_header side states line corner None = fault line 1 NoHeader
on_header side states line corner (Some extents) =
    if nat_lt side extents.0 then fault line 1 TooWide
    else if nat_lt side extents.1 then fault line 1 TooHigh
    else Ok (within (box corner extents)
    (record { width = extents.0; height = extents.1; states = states }) nothing_read)

-- a line before the cells: a remark, a blank line, or the header
abbrev pub on_head : ℕ → ℕ → ℕ → Option (ℕ × ℕ) → List ℕ → Result Stage PatternFault
on_head side states line corner [] = Ok (before corner)
on_head side states line corner (b ∷ bytes) =
    if b == 35 then Ok (before (if_none (corner_in (b ∷ bytes)) corner))
    else if length (past_blanks (b ∷ bytes)) == 0 then Ok (before corner)
    else on_header side states line corner (extents_in (b ∷ bytes))

-- with these rows
abbrev pub with_rows : Pattern → List (List ℕ) → Pattern
with_rows p rows = record {
  width = p.width;
  height = p.height;
  column = p.column;
  row = p.row;
  rows = rows;
}

-- after a line of cells
abbrev pub on_body : Pattern → Bounds → Result Step PatternFault → Result Stage PatternFault
on_body p bounds (Err e) = Err e
on_body p bounds (Ok (over rows)) = Ok (done (with_rows p rows))
on_body p bounds (Ok (more read)) = Ok (within p bounds read)

-- a line, by its number; after the end there may be anything
abbrev pub on_line : ℕ → ℕ → ℕ → Stage → List ℕ → Result Stage PatternFault
on_line side states line (before corner) bytes = on_head side states line corner bytes
on_line side states line (within p bounds read) bytes =
    on_body p bounds (whole_line_read bounds line bytes read)
on_line side states line (done p) bytes = Ok (done p)

-- at the end of n lines
abbrev pub at_end : ℕ → Stage → Result Pattern PatternFault
at_end n (before corner) = fault n 1 NoHeader
at_end n (within p bounds read) = fault n 1 NoEnd
at_end n (done p) = Ok p

-- and then what comes later
abbrev pub and_later : Result Stage PatternFault → (Stage → Result Pattern PatternFault)
    → Result Pattern PatternFault
and_later (Err e) later = Err e
and_later (Ok stage) later = later stage

-- what lines make of a stage after n others
abbrev pub lines_read : ℕ → ℕ → List (List ℕ) → ℕ → Stage → Result Pattern PatternFault
lines_read side states [] n stage = at_end n stage
lines_read side states (line ∷ later) n stage =
    and_later (on_line side states (n + 1) stage line) (lines_read side states later (n + 1))

-- the pattern of a text, for a torus of this side and so many states; or the first fault
unfoldable pub pattern_in : ℕ → ℕ → List ℕ → Result Pattern PatternFault
pattern_in side states text = lines_read side states (lines text) 0 (before None)
