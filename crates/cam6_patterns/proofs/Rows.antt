-- The rows of a frame, and their parts.
use Rattle.std.proofs.Common.{◌≡◌, ◌≢◌, ◌<◌, ◌≤◌, ◌+◌, ◌%◌, ◌∙◌, ℕ, List, [], ◌∷◌, ◌++◌, Bool, true, false}
use Rattle.std.proofs.Common.{length, take, drop, get_or, cond, refl, sym, ap, arith, ne_eqb, eq-eqb}
use Rattle.std.proofs.Common.{append_assoc, add-one, drop-cons}
use Rattle.std.specs.Prelude.{◌==◌, ◌&&◌, nat_lt}
use Rattle.std.specs.List.{list_all, AllByRecursion}
use Rattle.std.proofs.Math.Nat.{mod-eq_of_lt}
use Rattle.std.proofs.lemmas.List.{get_or-take, length-take-le, ext_get_or}
use Rattle.cam6_planes.proofs.SideNumbers.{side_least, side_most}
use Rattle.cam6_show_frames.specs.Frame.{colour_at, IsRowOf, IsFrame}
use Rattle.cam6_patterns.specs.Pattern.{most_cells}
use Rattle.cam6_patterns.specs.Writing.{trimmed, trimmed_by, letter, counted, runs, runs_after}
use Rattle.cam6_patterns.specs.Writing.{row_ends, row_by_row, filled}
use Rattle.cam6_patterns.specs.Outcome.{Fills, FillsRow}

-- whether a row's cells have two states
abbrev pub has_two_states : List ℕ → Bool
has_two_states row = list_all (λ cell. nat_lt cell 2) row

module _ (rows : List (List ℕ)) (frame : IsFrame rows) where
  -- a frame's row
  pub its_row : (y : ℕ) → y < length rows → IsRowOf frame.0 (get_or rows y [])
  its_row y within = frame.2 y [] within

  pub side_is_long : length rows ≤ most_cells
  side_is_long = omega (arith, frame.1, side_most frame.0)

  -- it is as wide as the frame is high
  pub row_is_wide : (y : ℕ) → y < length rows → length (get_or rows y []) ≡ length rows
  row_is_wide y within = (its_row y within).0 ∙ sym frame.1

  pub rows_are_some : 0 < length rows
  rows_are_some = omega (arith, frame.1, side_least frame.0)

  -- its cells are the frame's colours
  pub row_taken : (y : ℕ) (cells : List ℕ) → y < length rows → length cells ≡ most_cells
      → ((j : ℕ) → j < length rows → get_or cells j 0 ≡ colour_at rows j y)
      → take (length rows) cells ≡ get_or rows y []
  unfolding colour_at
  row_taken y cells within long put =
      let n : ℕ = length rows in
      let row : List ℕ = get_or rows y [] in
      let wide : length row ≡ n = row_is_wide y within in
      let front : length (take n cells) ≡ n =
      length-take-le n cells (omega (arith, long, side_is_long)) in
      let here : y % n ≡ y = mod-eq_of_lt within in
      ext_get_or 0 (take n cells) row (front ∙ sym wide)
      (λ k h.
      let before : k < n = omega (arith, h, front) in
      let there : k % n ≡ k = mod-eq_of_lt before in
      get_or-take n cells k 0 before ∙ put k before
      ∙ ap (λ x. get_or (get_or rows (y % n) []) x 0) there
      ∙ ap (λ x. get_or (get_or rows x []) k 0) here)

-- the first of the rows from y on
pub first_of_rest : (rows : List (List ℕ)) (y : ℕ) → y < length rows
    → drop y rows ≡ get_or rows y [] ∷ drop (y + 1) rows
first_of_rest rows y within =
    drop-cons rows y [] within ∙ ap (λ n. get_or rows y [] ∷ drop n rows) (sym (add-one y))

-- one more row was looked at
pub row_looked_at : (rows : List (List ℕ)) (y : ℕ) → y < length rows
    → has_two_states (get_or rows y []) ≡ true
    → list_all has_two_states (drop (y + 1) rows) ≡ list_all has_two_states (drop y rows)
row_looked_at rows y within two =
    let rest = list_all has_two_states (drop (y + 1) rows) in
    let cut = first_of_rest rows y within in
    ap (λ t. t && rest) (sym two) ∙ ap (list_all has_two_states) (sym cut)

-- a row with another state was found
pub row_stops : (rows : List (List ℕ)) (y : ℕ) → y < length rows
    → has_two_states (get_or rows y []) ≡ false → list_all has_two_states (drop y rows) ≡ false
row_stops rows y within other =
    let rest = list_all has_two_states (drop (y + 1) rows) in
    let cut = first_of_rest rows y within in
    ap (list_all has_two_states) cut ∙ ap (λ t. t && rest) other

-- a last cell of state 0 is left out
pub trimmed_zero : (cells : List ℕ) → trimmed (cells ++ 0 ∷ []) ≡ trimmed cells
trimmed_zero [] = refl
trimmed_zero (cell ∷ cells) = ap (trimmed_by cell) (trimmed_zero cells)

-- a last cell of another one isn't
trimmed_by_some : (cell : ℕ) (cells : List ℕ) (last : ℕ)
    → trimmed_by cell (cells ++ last ∷ []) ≡ cell ∷ (cells ++ last ∷ [])
trimmed_by_some cell [] last = refl
trimmed_by_some cell (next ∷ cells) last = refl

pub trimmed_some : (cells : List ℕ) (last : ℕ) → last ≢ 0
    → trimmed (cells ++ last ∷ []) ≡ cells ++ last ∷ []
trimmed_some [] last some = rw (ne_eqb last 0 some) refl
trimmed_some (cell ∷ cells) last some =
    ap (trimmed_by cell) (trimmed_some cells last some) ∙ trimmed_by_some cell cells last

each_trimmed_by : (P : ℕ → Type 0) (cell : ℕ) (cells : List ℕ) → P cell → AllByRecursion P cells
    → AllByRecursion P (trimmed_by cell cells)
each_trimmed_by P cell [] here there =
    elim (cell == 0) as (λ t. AllByRecursion P (cond t [] (cell ∷ [])))
    [ true ↦ tt | false ↦ (here, tt) ]
each_trimmed_by P cell (next ∷ cells) here there = (here, there)

pub each_trimmed : (P : ℕ → Type 0) (cells : List ℕ) → AllByRecursion P cells
    → AllByRecursion P (trimmed cells)
each_trimmed P [] all = tt
each_trimmed P (cell ∷ cells) all =
    each_trimmed_by P cell (trimmed cells) all.0 (each_trimmed P cells all.1)

-- the run goes on
pub run_goes_on : (states n state cell : ℕ) (rest later : List ℕ) → rest ≡ cell ∷ later
    → cell ≡ state → runs_after states n state rest ≡ runs_after states (n + 1) state later
run_goes_on states n state cell rest later is same = rw is (rw (eq-eqb cell state same) refl)

-- or another begins
pub run_ends : (states n state cell : ℕ) (rest later : List ℕ) → rest ≡ cell ∷ later
    → cell ≢ state
    → runs_after states n state rest
    ≡ counted n (letter states state) ∷ runs_after states 1 cell later
run_ends states n state cell rest later is other = rw is (rw (ne_eqb cell state other) refl)

module _ (old : List ℕ) (used states ends : ℕ) (row : List ℕ) where
  -- a row without a part
  pub row_passed : (length (trimmed row) == 0) ≡ true
      → FillsRow old used states ends row old used (ends + 1)
  row_passed empty rows =
      ap (λ t. old ++ filled used (cond t (row_by_row states (ends + 1) rows)
      (row_ends ends ++ runs states (trimmed row) ++ row_by_row states 1 rows))) empty

  -- a row with parts
  pub row_filled : (length (trimmed row) == 0) ≡ false → (between new : List ℕ) (now after : ℕ)
      → Fills old used (row_ends ends) between now
      → Fills between now (runs states (trimmed row)) new after
      → FillsRow old used states ends row new after 1
  row_filled some between new now after first second rows =
      let later : List (List ℕ) = row_by_row states 1 rows in
      ap (λ t. old ++ filled used (cond t (row_by_row states (ends + 1) rows)
      (row_ends ends ++ runs states (trimmed row) ++ later))) some
      ∙ ap (λ l. old ++ filled used l)
      (append_assoc (row_ends ends) (runs states (trimmed row)) later)
      ∙ first (runs states (trimmed row) ++ later) ∙ second later
