-- The parts of rows are read as rows with their cells.
use Rattle.std.proofs.Common.{◌≡◌, ◌≢◌, ◌<◌, ◌≤◌, ◌+◌, ◌-◌, ◌∙◌, ◌++◌, ℕ, zero, suc, inl}
use Rattle.std.proofs.Common.{List, [], ◌∷◌, Bool, true, false, length, get_or, replicate, cond, refl, sym, ap}
use Rattle.std.proofs.Common.{subst, arith, length-append, append_assoc, append-nil, ne_eqb}
use Rattle.std.specs.Prelude.{◌==◌}
use Rattle.std.specs.List.{AllByRecursion}
use Rattle.std.proofs.lemmas.Bool.{eqb-true, eqb-false}
use Rattle.std.proofs.lemmas.List.{length-replicate}
use Rattle.std.proofs.lemmas.Grind.{replicate_next}
use Rattle.cam6_patterns.specs.Pattern.{most_cells, state_in}
use Rattle.cam6_patterns.specs.Writing.{trimmed, trimmed_by, runs, row_ends, row_by_row}
use Rattle.cam6_patterns.specs.Body.{Bounds, whole_rows}
use Rattle.cam6_patterns.proofs.Rows.{each_trimmed}
use Rattle.cam6_patterns.proofs.LinesRead.{Reads}
use Rattle.cam6_patterns.proofs.RunsRead.{reading, laid, runs_read, row_ends_read}

-- the cells left out of a trimmed row are 0
pub cell_of_trimmed : (cells : List ℕ) (x : ℕ) → get_or (trimmed cells) x 0 ≡ get_or cells x 0
cell_of_trimmed [] x = refl
cell_of_trimmed (cell ∷ cells) x = by_rest (trimmed cells) (cell_of_trimmed cells) x
  where
    by_rest : (rest : List ℕ) → ((x : ℕ) → get_or rest x 0 ≡ get_or cells x 0) → (x : ℕ)
        → get_or (trimmed_by cell rest) x 0 ≡ get_or (cell ∷ cells) x 0
    by_rest (next ∷ rest) same zero = refl
    by_rest (next ∷ rest) same (suc x) = same x
    by_rest [] same x = by_dead (cell == 0) refl x
      where
        by_dead : (t : Bool) → (cell == 0) ≡ t → (x : ℕ)
            → get_or (cond t [] (cell ∷ [])) x 0 ≡ get_or (cell ∷ cells) x 0
        by_dead true dead zero = sym (eqb-true cell 0 dead)
        by_dead true dead (suc x) = same x
        by_dead false dead zero = refl
        by_dead false dead (suc x) = same x

-- a trimmed row is no longer than the row
pub trimmed_is_no_longer : (cells : List ℕ) → length (trimmed cells) ≤ length cells
trimmed_is_no_longer [] = omega arith
trimmed_is_no_longer (cell ∷ cells) = by_rest (trimmed cells) (trimmed_is_no_longer cells)
  where
    by_rest : (rest : List ℕ) → length rest ≤ length cells
        → length (trimmed_by cell rest) ≤ length (cell ∷ cells)
    by_rest (next ∷ rest) shorter = omega (arith, shorter)
    by_rest [] shorter = by_dead (cell == 0)
      where
        by_dead : (t : Bool) → length (cond t [] (cell ∷ [])) ≤ length (cell ∷ cells)
        by_dead true = omega arith
        by_dead false = omega arith

-- a row may stand for another one with the same cells
same_in_middle : (above : List (List ℕ)) (one other : List ℕ) (below : List (List ℕ))
    → ((x : ℕ) → get_or one x 0 ≡ get_or other x 0) → (x y : ℕ)
    → state_in ((above ++ one ∷ []) ++ below) x y ≡ state_in (above ++ other ∷ below) x y
same_in_middle [] one other below same x zero = same x
same_in_middle [] one other below same x (suc y) = refl
same_in_middle (row ∷ above) one other below same x zero = refl
same_in_middle (row ∷ above) one other below same x (suc y) =
    same_in_middle above one other below same x y

-- a row without cells
abbrev no_cells : List ℕ
no_cells = []

-- they have no cell
row_of_empties : (n y : ℕ) → get_or (replicate n no_cells) y [] ≡ []
row_of_empties zero y = refl
row_of_empties (suc n) zero = refl
row_of_empties (suc n) (suc y) = row_of_empties n y

-- at the end such rows may be left out
empties_left_out : (rows : List (List ℕ)) (n y : ℕ)
    → get_or (rows ++ replicate n []) y [] ≡ get_or rows y []
empties_left_out [] n y = row_of_empties n y
empties_left_out (row ∷ rows) n zero = refl
empties_left_out (row ∷ rows) n (suc y) = empties_left_out rows n y

-- one more row's end, of a row without cells
laid_more : (n : ℕ) (rows : List (List ℕ)) (cells : List ℕ) → (n ≡ 0 → cells ≡ [])
    → laid (n + 1) rows cells ≡ laid n rows cells ++ [] ∷ []
laid_more n rows cells none =
    ap (λ t. cond t rows (rows ++ cells ∷ replicate (n + 1 - 1) []))
    (ne_eqb (n + 1) 0 (omega arith))
    ∙ by_number (n == 0) refl
  where
    by_number : (t : Bool) → (n == 0) ≡ t
        → rows ++ cells ∷ replicate (n + 1 - 1) []
        ≡ cond t rows (rows ++ cells ∷ replicate (n - 1) []) ++ [] ∷ []
    by_number true is =
        let first : n ≡ 0 = eqb-true n 0 is in
        let no_more : n + 1 - 1 ≡ 0 = omega (arith, first) in
        ap (λ m. rows ++ cells ∷ replicate m []) no_more ∙ ap (λ l. rows ++ l ∷ []) (none first)
    by_number false is =
        let any : n ≢ 0 = eqb-false n 0 is in
        let one_more : n + 1 - 1 ≡ n - 1 + 1 = omega (arith, any) in
        ap (λ m. rows ++ cells ∷ replicate m []) one_more
        ∙ ap (λ l. rows ++ cells ∷ l) (replicate_next (n - 1) [])
        ∙ sym (append_assoc rows (cells ∷ replicate (n - 1) []) ([] ∷ []))

-- so many rows are laid
length-laid : (n : ℕ) (rows : List (List ℕ)) (cells : List ℕ)
    → length (laid n rows cells) ≡ length rows + n
length-laid n rows cells = by_number (n == 0) refl
  where
    by_number : (t : Bool) → (n == 0) ≡ t
        → length (cond t rows (rows ++ cells ∷ replicate (n - 1) [])) ≡ length rows + n
    by_number true is = let first : n ≡ 0 = eqb-true n 0 is in omega (arith, first)
    by_number false is =
        let any : n ≢ 0 = eqb-false n 0 is in
        omega (
          arith,
          any,
          length-append rows (cells ∷ replicate (n - 1) []),
          length-replicate (n - 1) no_cells,
        )

-- at the end the rows are those that were laid
whole_is_laid : (n : ℕ) (rows : List (List ℕ)) (cells : List ℕ) → (n ≡ 0 → cells ≡ []) → (y : ℕ)
    → get_or (whole_rows (reading rows cells)) y [] ≡ get_or (laid n rows cells) y []
whole_is_laid n rows cells none y = by_cells cells none
  where
    by_cells : (cells : List ℕ) → (n ≡ 0 → cells ≡ [])
        → get_or (whole_rows (reading rows cells)) y [] ≡ get_or (laid n rows cells) y []
    by_cells [] none = by_number (n == 0)
      where
        by_number : (t : Bool)
            → get_or rows y [] ≡ get_or (cond t rows (rows ++ [] ∷ replicate (n - 1) [])) y []
        by_number true = refl
        by_number false = sym (empties_left_out rows (suc (n - 1)) y)
    by_cells (cell ∷ cells) none =
        ap (λ t. get_or (cond t rows (rows ++ (cell ∷ cells) ∷ [])) y [])
        (ne_eqb (suc (length cells)) 0 (omega arith))
        ∙ by_number (n == 0) refl
      where
        by_number : (t : Bool) → (n == 0) ≡ t
            → get_or (rows ++ (cell ∷ cells) ∷ []) y []
            ≡ get_or (cond t rows (rows ++ (cell ∷ cells) ∷ replicate (n - 1) [])) y []
        by_number true is =
            let never : cell ∷ cells ≡ [] = none (eqb-true n 0 is) in absurd (cc)
        by_number false is =
            sym (empties_left_out (rows ++ (cell ∷ cells) ∷ []) (n - 1) y)
            ∙ ap (λ l. get_or l y [])
            (append_assoc rows ((cell ∷ cells) ∷ []) (replicate (n - 1) []))

-- a row is no wider than this and has so many states
pub record FitsIn (width states : ℕ) (row : List ℕ) : Type 0 where
  pub wide : length row ≤ width
  pub within : AllByRecursion (λ s. s < states) row

module _ (b : Bounds) (few : b.states ≤ 16) (narrow : b.width ≤ most_cells) (low : b.height ≤ most_cells)
    (states : ℕ) (known : states ≤ b.states) where
  -- rows are read after others, of which so many ends weren't written yet
  abbrev pub RowsRead : ℕ → List (List ℕ) → List (List ℕ) → List ℕ → Type 0
  RowsRead n rows above last =
      (final : List (List ℕ)) × Reads b (row_by_row states n rows) (reading above last) final
      × ((x y : ℕ) → state_in final x y ≡ state_in (laid n above last ++ rows) x y)

  -- wherever there is room for them
  abbrev RowsAreRead : List (List ℕ) → Type 0
  RowsAreRead rows =
      (n : ℕ) (above : List (List ℕ)) (last : List ℕ) → (n ≡ 0 → last ≡ [])
      → length above + n + length rows ≤ b.height → RowsRead n rows above last

  -- after the last row comes the end
  no_row_read : RowsAreRead []
  no_row_read n above last none room = (
    whole_rows (reading above last),
    (refl, (omega arith, tt), inl (λ line column. refl)),
    λ x y.
        ap (λ row. get_or row x 0)
        (whole_is_laid n above last none y
        ∙ ap (λ l. get_or l y []) (sym (append-nil (laid n above last)))),
  )

  module _ (row : List ℕ) (rows : List (List ℕ)) (fits : FitsIn b.width states row)
      (next : RowsAreRead rows) (n : ℕ) (above : List (List ℕ)) (last : List ℕ) (none : n ≡ 0 → last ≡ [])
      (room : length above + n + length (row ∷ rows) ≤ b.height) where
    -- the rows before this one
    abbrev so_far : List (List ℕ)
    so_far = laid n above last

    -- the rows with this one
    with_row : (final : List (List ℕ))
        → ((x y : ℕ) → state_in final x y ≡ state_in ((so_far ++ trimmed row ∷ []) ++ rows) x y)
        → (x y : ℕ) → state_in final x y ≡ state_in (so_far ++ row ∷ rows) x y
    with_row final same x y =
        same x y ∙ same_in_middle so_far (trimmed row) row rows (cell_of_trimmed row) x y

    -- a row without cells is another end to come
    empty_row_read : trimmed row ≡ [] → RowsRead (n + 1) rows above last
        → (final : List (List ℕ))
        × Reads b (row_by_row states (n + 1) rows) (reading above last) final
        × ((x y : ℕ) → state_in final x y ≡ state_in (so_far ++ row ∷ rows) x y)
    empty_row_read empty read = (
      read.0,
      read.1,
      with_row read.0
          (λ x y.
          read.2 x y
          ∙ ap (λ l. state_in (l ++ rows) x y)
          (laid_more n above last none ∙ ap (λ l. so_far ++ l ∷ []) (sym empty))),
    )

    -- another row comes after the ends of those before it
    some_row_read : RowsRead 1 rows so_far (trimmed row)
        → (final : List (List ℕ))
        × Reads b (row_ends n ++ runs states (trimmed row) ++ row_by_row states 1 rows)
        (reading above last) final
        × ((x y : ℕ) → state_in final x y ≡ state_in (so_far ++ row ∷ rows) x y)
    some_row_read read =
        let long : length so_far ≡ length above + n = length-laid n above last in
        let short : length (trimmed row) ≤ length row = trimmed_is_no_longer row in
        let later : List (List ℕ) = row_by_row states 1 rows in
        let cells_read : Reads b (runs states (trimmed row) ++ later) (reading so_far []) read.0 =
        runs_read b few narrow low states known so_far (omega (arith, long, room)) (trimmed row)
        (each_trimmed (λ s. s < states) row fits.within) (omega (arith, short, fits.wide)) later
        read.0 read.1 in (
          read.0,
          subst (λ parts. Reads b parts (reading above last) read.0)
              (sym (append_assoc (row_ends n) (runs states (trimmed row)) later))
              (row_ends_read b few narrow low n above last none (omega (arith, room))
              (runs states (trimmed row) ++ later) read.0 cells_read),
          with_row read.0 read.2,
        )

    -- a row with cells or without
    by_cells : (t : Bool) → (length (trimmed row) == 0) ≡ t
        → (final : List (List ℕ))
        × Reads b (cond t (row_by_row states (n + 1) rows)
        (row_ends n ++ runs states (trimmed row) ++ row_by_row states 1 rows)) (reading above last)
        final
        × ((x y : ℕ) → state_in final x y ≡ state_in (so_far ++ row ∷ rows) x y)
    by_cells true is =
        empty_row_read (no_cell (trimmed row) (eqb-true (length (trimmed row)) 0 is))
        (next (n + 1) above last (λ never. absurd (omega (arith, never))) (omega (arith, room)))
      where
        no_cell : (cells : List ℕ) → length cells ≡ 0 → cells ≡ []
        no_cell [] none = refl
        no_cell (cell ∷ cells) none = absurd (omega (arith, none))
    by_cells false is =
        some_row_read
        (next 1 so_far (trimmed row) (λ never. absurd (omega (arith, never)))
        (omega (arith, room, length-laid n above last)))

  -- the parts of rows are read as rows with their cells
  pub rows_read : (rows : List (List ℕ)) → AllByRecursion (FitsIn b.width states) rows
      → RowsAreRead rows
  rows_read [] all n above last none room = no_row_read n above last none room
  rows_read (row ∷ rows) all n above last none room =
      by_cells row rows all.0 (rows_read rows all.1) n above last none room
      (length (trimmed row) == 0) refl
