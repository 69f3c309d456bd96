-- The cells of a pattern as run-length text has them: "3o" for three cells, "$" for a row's end, "!" for
-- the end.
use Rattle.std.specs.Prelude.{ℕ, ◌+◌, ◌*◌, ◌-◌, List, [], ◌∷◌, ◌++◌, length, replicate}
use Rattle.std.specs.Prelude.{Bool, true, false, ◌==◌, ◌||◌, ◌&&◌, nat_lt, nat_le, if◌then◌else◌}
use Rattle.std.specs.Prelude.{Option, Some, None, Result, Ok, Err}
use Rattle.cam6_patterns.specs.Pattern.{most_cells}
use Rattle.cam6_patterns.specs.Faults.{fault}
use Rattle.cam6_patterns.specs.Header.{is_blank, is_decimal}
use Rattle.cam6_patterns.specs.declared.faults.PatternFault.{PatternFault}
use Rattle.cam6_patterns.specs.declared.faults.Cause.TheVariants.{Unexpected, CountTooLarge}
use Rattle.cam6_patterns.specs.declared.faults.Cause.TheVariants.{TooWide, TooHigh, TooManyStates}

-- how many columns, rows and states there may be
pub record Bounds : Type 0 where
  pub width : ℕ
  pub height : ℕ
  pub states : ℕ

-- what was read of the cells: the rows that ended, the cells of the row that didn't, and the number
-- that was read last, if what it counts didn't come yet
pub record Read : Type 0 where
  pub rows : List (List ℕ)
  pub cells : List ℕ
  pub count : Option ℕ

-- no cell
abbrev pub nothing_read : Read
nothing_read = record { rows = []; cells = []; count = None }

-- all rows: the last one counts if it has a cell
abbrev pub whole_rows : Read → List (List ℕ)
whole_rows read = if length read.cells == 0 then read.rows else read.rows ++ read.cells ∷ []

-- how many a number counts; 1 if there is none
abbrev pub times : Option ℕ → ℕ
times None = 1
times (Some n) = n

-- whether a number was read last
abbrev pub is_counting : Option ℕ → Bool
is_counting None = false
is_counting (Some n) = true

-- what one byte says
pub data Sign : Type 0 where
  decimal_digit : ℕ → Sign
  cell : ℕ → Sign
  row_end : Sign
  end : Sign
  blank : Sign
  no_sign : Sign

-- dead and live cells as b and o, or as a dot for 0 and A to X for 1 to 24
abbrev pub sign : ℕ → Sign
sign b =
    if is_decimal b then decimal_digit (b - 48)
    else if is_blank b then blank
    else if b == 36 then row_end
    else if b == 33 then end
    else if (b == 98) || (b == 46) then cell 0
    else if b == 111 then cell 1
    else if nat_le 65 b && nat_lt b 89 then cell (b - 64) else no_sign

-- what reading one byte makes of what was read: it goes on, or the text's end was met, or a fault
pub data Step : Type 0 where
  more : Read → Step
  over : List (List ℕ) → Step

-- a digit more in the number that was read last
abbrev pub with_digit : ℕ → ℕ → Read → ℕ → Result Step PatternFault
with_digit line column read d =
    let n = 10 * (if is_counting read.count then times read.count else 0) + d in
    if nat_lt most_cells n then fault line column CountTooLarge
    else Ok (more (record { rows = read.rows; cells = read.cells; count = Some n }))

-- the counted cells of this state after those of the row
abbrev pub with_cells : Bounds → ℕ → ℕ → Read → ℕ → Result Step PatternFault
with_cells bounds line column read state =
    let cells = read.cells ++ replicate (times read.count) state in
    if nat_le bounds.states state then fault line column TooManyStates
    else if nat_lt bounds.width (length cells) then fault line column TooWide
    else if nat_le bounds.height (length read.rows) then fault line column TooHigh
    else Ok (more (record { rows = read.rows; cells = cells; count = None }))

-- the ends of as many rows as are counted: of this one, and then of rows without a cell
abbrev pub with_row_ends : Bounds → ℕ → ℕ → Read → Result Step PatternFault
with_row_ends bounds line column read =
    if nat_lt bounds.height (length read.rows + times read.count) then fault line column TooHigh
    else if times read.count == 0 then Ok (more (record { rows = read.rows; cells = read.cells; count = None }))
    else Ok (more (record {
      rows = read.rows ++ read.cells ∷ replicate (times read.count - 1) [];
      cells = [];
      count = None;
    }))

-- by what the byte says
abbrev pub step : Bounds → ℕ → ℕ → Read → Sign → Result Step PatternFault
step bounds line column read (decimal_digit d) = with_digit line column read d
step bounds line column read (cell state) = with_cells bounds line column read state
step bounds line column read row_end = with_row_ends bounds line column read
step bounds line column read end =
    if is_counting read.count then fault line column Unexpected else Ok (over (whole_rows read))
step bounds line column read blank =
    if is_counting read.count then fault line column Unexpected else Ok (more read)
step bounds line column read no_sign = fault line column Unexpected

-- and then the bytes after it, unless there was a fault or the end was met
abbrev pub and_then : Result Step PatternFault → (Read → Result Step PatternFault)
    → Result Step PatternFault
and_then (Err e) later = Err e
and_then (Ok (over rows)) later = Ok (over rows)
and_then (Ok (more read)) later = later read

-- what a line's bytes from this column on make of what was read
abbrev pub line_read : Bounds → ℕ → List ℕ → ℕ → Read → Result Step PatternFault
line_read bounds line [] column read = Ok (more read)
line_read bounds line (b ∷ bytes) column read =
    and_then (step bounds line column read (sign b)) (line_read bounds line bytes (column + 1))

-- the line's end counts as a blank
abbrev pub whole_line_read : Bounds → ℕ → List ℕ → Read → Result Step PatternFault
whole_line_read bounds line bytes read =
    and_then (line_read bounds line bytes 1 read)
    (λ later. step bounds line (length bytes + 1) later blank)
