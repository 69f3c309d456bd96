-- What is read of cells keeps within its bounds.
use Rattle.std.proofs.Common.{◌≡◌, ◌<◌, ◌≤◌, ◌+◌, ◌-◌, ◌*◌, ℕ, List, [], ◌∷◌, ◌++◌, Bool, true, false}
use Rattle.std.proofs.Common.{Option, Some, None, Result, Ok, Err, length, replicate, cond, arith}
use Rattle.std.proofs.Common.{length-append, refl}
use Rattle.std.specs.Prelude.{All, nat_lt, nat_le, ◌==◌, if◌then◌else◌}
use Rattle.std.specs.List.{AllByRecursion}
use Rattle.std.proofs.lemmas.Bool.{ltb-false, leb-false, eqb-false}
use Rattle.std.proofs.lemmas.List.{length-replicate}
use Rattle.std.proofs.lemmas.List.Elements.{All-append, All-replicate, All-nil, All-cons}
use Rattle.cam6_patterns.specs.Pattern.{most_cells}
use Rattle.cam6_patterns.specs.Faults.{fault}
use Rattle.cam6_patterns.specs.Body.{Bounds, Read, Step, more, over, whole_rows, times, is_counting}
use Rattle.cam6_patterns.specs.Body.{with_digit, with_cells, with_row_ends, step, and_then, line_read}
use Rattle.cam6_patterns.specs.Body.{Sign, decimal_digit, cell, row_end, end, blank, no_sign, sign}
use Rattle.cam6_patterns.specs.Body.{whole_line_read, nothing_read}
use Rattle.cam6_patterns.specs.declared.faults.PatternFault.{PatternFault}
use Rattle.cam6_patterns.specs.declared.faults.Cause.TheVariants.{Unexpected, CountTooLarge}
use Rattle.cam6_patterns.specs.declared.faults.Cause.TheVariants.{TooWide, TooHigh, TooManyStates}
use Rattle.cam6_patterns.proofs.Each.{each_append, each_replicate}

-- rows that are within bounds
pub record FitRows (b : Bounds) (rows : List (List ℕ)) : Type 0 where
  pub high : length rows ≤ b.height
  pub wide : All (λ row. length row ≤ b.width) rows
  pub few : All (AllByRecursion (λ state. state < b.states)) rows

-- what was read is, and there is room for the row under way
pub record Fits (b : Bounds) (r : Read) : Type 0 where
  pub rows : FitRows b r.rows
  pub begun : 0 < length r.cells → length r.rows < b.height
  pub long : length r.cells ≤ b.width
  pub kept : AllByRecursion (λ state. state < b.states) r.cells

-- so it is after a step
abbrev pub StepFits : Bounds → Result Step PatternFault → Type 0
StepFits b (Err f) = Unit {0}
StepFits b (Ok (more r)) = Fits b r
StepFits b (Ok (over rows)) = FitRows b rows

-- no cell is within any bounds
pub nothing_fits : (b : Bounds) → Fits b nothing_read
nothing_fits b = record {
  rows = record { high = omega arith; wide = All-nil _; few = All-nil _ };
  begun = λ some. absurd (omega (arith, some));
  long = omega arith;
  kept = tt;
}

abbrev no_cell : List ℕ
no_cell = []

module _ (b : Bounds) where
  by_test : (t : Bool) (x y : Result Step PatternFault) → (t ≡ true → StepFits b x)
      → (t ≡ false → StepFits b y) → StepFits b (cond t x y)
  by_test true x y first second = first refl
  by_test false x y first second = second refl

  one_more_row : (rows : List (List ℕ)) (row : List ℕ) (n : ℕ) → FitRows b rows
      → length rows + (1 + n) ≤ b.height → length row ≤ b.width
      → AllByRecursion (λ state. state < b.states) row
      → FitRows b (rows ++ row ∷ replicate n [])
  one_more_row rows row n fits high wide few = record {
    high = omega (arith, high, length-append rows (row ∷ replicate n []), length-replicate n no_cell);
    wide = All-append (λ r. length r ≤ b.width) rows (row ∷ replicate n []) fits.wide
        (All-cons (λ r. length r ≤ b.width) row (replicate n []) wide
        (All-replicate (λ r. length r ≤ b.width) n [] (omega arith)));
    few = All-append (AllByRecursion (λ s. s < b.states)) rows (row ∷ replicate n []) fits.few
        (All-cons (AllByRecursion (λ s. s < b.states)) row (replicate n []) few
        (All-replicate (AllByRecursion (λ s. s < b.states)) n [] tt));
  }

  module _ (r : Read) (fits : Fits b r) where
    counted_fits : (count : Option ℕ)
        → Fits b (record { rows = r.rows; cells = r.cells; count = count })
    counted_fits count = record {
      rows = fits.rows;
      begun = fits.begun;
      long = fits.long;
      kept = fits.kept;
    }

    whole_fits : FitRows b (whole_rows r)
    whole_fits = by_length (length r.cells == 0) refl
      where
        by_length : (t : Bool) → (length r.cells == 0) ≡ t
            → FitRows b (cond t r.rows (r.rows ++ r.cells ∷ []))
        by_length true none = fits.rows
        by_length false some =
            let room = fits.begun (omega (arith, eqb-false (length r.cells) 0 some)) in
            one_more_row r.rows r.cells 0 fits.rows (omega (arith, room)) fits.long fits.kept

    unless_counting_fits : (line column : ℕ) (s : Step) → StepFits b (Ok s)
        → StepFits b (if is_counting r.count then fault line column Unexpected else Ok s)
    unless_counting_fits line column s going =
        by_test (is_counting r.count) (fault line column Unexpected) (Ok s) (λ _. tt) (λ _. going)

    digit_fits : (line column d : ℕ) → StepFits b (with_digit line column r d)
    digit_fits line column d =
        let n : ℕ = 10 * (if is_counting r.count then times r.count else 0) + d in
        by_test (nat_lt most_cells n) (fault line column CountTooLarge)
        (Ok (more (record { rows = r.rows; cells = r.cells; count = Some n }))) (λ _. tt)
        (λ _. counted_fits (Some n))

    cells_fit : (line column state : ℕ) → StepFits b (with_cells b line column r state)
    cells_fit line column state =
        let n : ℕ = times r.count in
        let cells : List ℕ = r.cells ++ replicate n state in
        let next : Read = record { rows = r.rows; cells = cells; count = None } in
        by_test (nat_le b.states state) (fault line column TooManyStates)
        (if nat_lt b.width (length cells) then fault line column TooWide
        else if nat_le b.height (length r.rows) then fault line column TooHigh
        else Ok (more next))
        (λ _. tt)
        (λ few. by_test (nat_lt b.width (length cells)) (fault line column TooWide)
        (if nat_le b.height (length r.rows) then fault line column TooHigh else Ok (more next))
        (λ _. tt)
        (λ wide. by_test (nat_le b.height (length r.rows)) (fault line column TooHigh)
        (Ok (more next)) (λ _. tt)
        (λ high. record {
          rows = fits.rows;
          begun = λ _. leb-false b.height (length r.rows) high;
          long = ltb-false b.width (length cells) wide;
          kept = each_append (λ s. s < b.states) r.cells (replicate n state) fits.kept
              (each_replicate (λ s. s < b.states) n state (leb-false b.states state few));
        })))

    row_ends_fit : (line column : ℕ) → StepFits b (with_row_ends b line column r)
    row_ends_fit line column =
        let n : ℕ = times r.count in
        let same : Read = record { rows = r.rows; cells = r.cells; count = None } in
        let next : Read = record {
          rows = r.rows ++ r.cells ∷ replicate (n - 1) [];
          cells = [];
          count = None;
        } in
        by_test (nat_lt b.height (length r.rows + n)) (fault line column TooHigh)
        (if n == 0 then Ok (more same) else Ok (more next)) (λ _. tt)
        (λ high. by_test (n == 0) (Ok (more same)) (Ok (more next)) (λ _. counted_fits None)
        (λ some. record {
          rows = one_more_row r.rows r.cells (n - 1) fits.rows
              (omega (arith, ltb-false b.height (length r.rows + n) high, eqb-false n 0 some))
              fits.long fits.kept;
          begun = λ none. absurd (omega (arith, none));
          long = omega arith;
          kept = tt;
        }))

    step_fits : (line column : ℕ) (s : Sign) → StepFits b (step b line column r s)
    step_fits line column (decimal_digit d) = digit_fits line column d
    step_fits line column (cell state) = cells_fit line column state
    step_fits line column row_end = row_ends_fit line column
    step_fits line column end = unless_counting_fits line column (over (whole_rows r)) whole_fits
    step_fits line column blank = unless_counting_fits line column (more r) fits
    step_fits line column no_sign = tt

  then_fits : (s : Result Step PatternFault) (later : Read → Result Step PatternFault)
      → StepFits b s → ((r : Read) → Fits b r → StepFits b (later r)) → StepFits b (and_then s later)
  then_fits (Err f) later now next = tt
  then_fits (Ok (more r)) later now next = next r now
  then_fits (Ok (over rows)) later now next = now

  line_fits : (line : ℕ) (bytes : List ℕ) (column : ℕ) (r : Read) → Fits b r
      → StepFits b (line_read b line bytes column r)
  line_fits line [] column r fits = fits
  line_fits line (byte ∷ bytes) column r fits =
      then_fits (step b line column r (sign byte)) (line_read b line bytes (column + 1))
      (step_fits r fits line column (sign byte))
      (λ next. line_fits line bytes (column + 1) next)

  pub whole_line_fits : (line : ℕ) (bytes : List ℕ) (r : Read) → Fits b r
      → StepFits b (whole_line_read b line bytes r)
  whole_line_fits line bytes r fits =
      then_fits (line_read b line bytes 1 r)
      (λ later. step b line (length bytes + 1) later blank) (line_fits line bytes 1 r fits)
      (λ later now. step_fits later now line (length bytes + 1) blank)
