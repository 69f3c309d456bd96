-- The runs of a row are read as its cells, and the ends of rows as rows.
use Rattle.std.proofs.Common.{◌≡◌, ◌≢◌, ◌<◌, ◌≤◌, ◌+◌, ◌-◌, ◌∙◌, ℕ, List, [], ◌∷◌, ◌++◌, inr}
use Rattle.std.proofs.Common.{Bool, true, false, None, Ok, length, replicate, cond, refl, sym}
use Rattle.std.proofs.Common.{ap, subst, arith, length-append, append_assoc, append-nil}
use Rattle.std.specs.Prelude.{◌==◌}
use Rattle.std.specs.List.{AllByRecursion}
use Rattle.std.proofs.lemmas.Bool.{eqb-true, eqb-false}
use Rattle.std.proofs.lemmas.List.{length-replicate}
use Rattle.std.proofs.lemmas.Grind.{replicate_next}
use Rattle.cam6_patterns.specs.Pattern.{most_cells}
use Rattle.cam6_patterns.specs.Writing.{letter, counted, runs, runs_after, row_ends}
use Rattle.cam6_patterns.specs.Body.{Bounds, Read, more, step, times}
use Rattle.cam6_patterns.proofs.PartsRead.{counting, count_of, times_count, part_read}
use Rattle.cam6_patterns.proofs.LinesRead.{Leads, Reads}
use Rattle.cam6_patterns.proofs.SignsRead.{letter_sign, letter_is_no_lf, counted_without_lf}
use Rattle.cam6_patterns.proofs.SignsRead.{cells_step, row_ends_step}

-- these rows and cells, and no number
abbrev pub reading : List (List ℕ) → List ℕ → Read
reading rows cells = record { rows = rows; cells = cells; count = None }

-- the rows after the ends of so many
abbrev pub laid : ℕ → List (List ℕ) → List ℕ → List (List ℕ)
laid n rows cells = cond (n == 0) rows (rows ++ cells ∷ replicate (n - 1) [])

module _ (b : Bounds) (few : b.states ≤ 16) (narrow : b.width ≤ most_cells) (low : b.height ≤ most_cells) where
  module _ (states : ℕ) (known : states ≤ b.states) (rows : List (List ℕ))
      (room : length rows < b.height) where
    -- a run is read after the cells before it
    run_leads : (before : List ℕ) (n state : ℕ) → state < states → length before + n ≤ b.width
        → Leads b (counted n (letter states state)) (reading rows before)
        (more (reading rows (before ++ replicate n state)))
    run_leads before n state within fits line column =
        let count : times (count_of n) ≡ n = times_count n in
        part_read b line (reading rows before) n (letter states state) column
        (more (reading rows (before ++ replicate n state))) (omega (arith, fits, narrow))
        (λ at.
        ap (step b line at (counting (reading rows before) (count_of n)))
        (letter_sign states state within (omega (arith, within, known, few)))
        ∙ cells_step b line at rows before (count_of n) state (omega (arith, within, known))
        (omega (arith, count, fits)) room
        ∙ ap (λ m. Ok (more (reading rows (before ++ replicate m state)))) count)

    module _ (whole : List ℕ) (wide : length whole ≤ b.width) (later final : List (List ℕ))
        (reads : Reads b later (reading rows whole) final) where
      -- the runs from these cells on, whatever cells came before
      abbrev RunsAreRead : List ℕ → Type 0
      RunsAreRead cells =
          (before : List ℕ) (n state : ℕ) → state < states
          → before ++ (replicate n state ++ cells) ≡ whole
          → Reads b (runs_after states n state cells ++ later) (reading rows before) final

      -- there is room for them
      how_long : (before : List ℕ) (n state : ℕ) (cells : List ℕ)
          → before ++ (replicate n state ++ cells) ≡ whole → length before + n ≤ b.width
      how_long before n state cells is =
          omega (
            arith,
            ap length is,
            length-append before (replicate n state ++ cells),
            length-append (replicate n state) cells,
            length-replicate n state,
            wide,
          )

      -- a run, and then the others
      run_then : (before : List ℕ) (n state : ℕ) (parts : List (List ℕ)) → state < states
          → length before + n ≤ b.width
          → Reads b parts (reading rows (before ++ replicate n state)) final
          → Reads b (counted n (letter states state) ∷ parts) (reading rows before) final
      run_then before n state parts within fits next = (
        refl,
        counted_without_lf n (letter states state) (omega (arith, fits, narrow))
            (letter_is_no_lf states state),
        inr (
          reading rows (before ++ replicate n state),
          run_leads before n state within fits,
          next,
        ),
      )

      -- the run goes on, or another begins
      by_cell : (first : ℕ) (cells : List ℕ) → first < states → RunsAreRead cells
          → (before : List ℕ) (n state : ℕ) → state < states → before ++ (replicate n state ++ first ∷ cells) ≡ whole → (t : Bool)
          → (first == state) ≡ t
          → Reads b (cond t (runs_after states (n + 1) state cells)
          (counted n (letter states state) ∷ runs_after states 1 first cells) ++ later)
          (reading rows before) final
      by_cell first cells known_cell next before n state within is true same =
          let equal : first ≡ state = eqb-true first state same in
          let moved : replicate (n + 1) state ++ cells ≡ replicate n state ++ first ∷ cells =
          ap (λ l. l ++ cells) (replicate_next n state)
          ∙ append_assoc (replicate n state) (state ∷ []) cells
          ∙ ap (λ s. replicate n state ++ s ∷ cells) (sym equal) in
          next before (n + 1) state within (ap (λ l. before ++ l) moved ∙ is)
      by_cell first cells known_cell next before n state within is false other =
          run_then before n state (runs_after states 1 first cells ++ later) within
          (how_long before n state (first ∷ cells) is)
          (next (before ++ replicate n state) 1 first known_cell
          (append_assoc before (replicate n state) (first ∷ cells) ∙ is))

      -- cell by cell
      runs_after_read : (cells : List ℕ) → AllByRecursion (λ s. s < states) cells
          → RunsAreRead cells
      runs_after_read [] all before n state within is =
          let all_cells : whole ≡ before ++ replicate n state =
          sym is ∙ ap (λ l. before ++ l) (append-nil (replicate n state)) in
          run_then before n state later within (how_long before n state [] is)
          (subst (λ l. Reads b later (reading rows l) final) all_cells reads)
      runs_after_read (first ∷ cells) all before n state within is =
          by_cell first cells all.0 (runs_after_read cells all.1) before n state within is
          (first == state) refl

    -- a row's runs are read as its cells
    pub runs_read : (cells : List ℕ) → AllByRecursion (λ s. s < states) cells
        → length cells ≤ b.width → (later final : List (List ℕ)) → Reads b later (reading rows cells) final
        → Reads b (runs states cells ++ later) (reading rows []) final
    runs_read [] all wide later final reads = reads
    runs_read (first ∷ cells) all wide later final reads =
        runs_after_read (first ∷ cells) wide later final reads cells all.1 [] 1 first all.0 refl

  -- the ends of rows are read as rows
  pub row_ends_read : (n : ℕ) (rows : List (List ℕ)) (cells : List ℕ) → (n ≡ 0 → cells ≡ [])
      → length rows + n ≤ b.height → (later final : List (List ℕ))
      → Reads b later (reading (laid n rows cells) []) final
      → Reads b (row_ends n ++ later) (reading rows cells) final
  row_ends_read n rows cells none room later final = by_number (n == 0) refl
    where
      by_number : (t : Bool) → (n == 0) ≡ t
          → Reads b later (reading (cond t rows (rows ++ cells ∷ replicate (n - 1) [])) []) final
          → Reads b (cond t [] (counted n 36 ∷ []) ++ later) (reading rows cells) final
      by_number true zero reads =
          subst (λ l. Reads b later (reading rows l) final) (sym (none (eqb-true n 0 zero))) reads
      by_number false some reads =
          let any : n ≢ 0 = eqb-false n 0 some in
          let count : times (count_of n) ≡ n = times_count n in
          let next : Read = reading (rows ++ cells ∷ replicate (n - 1) []) [] in (
            refl,
            counted_without_lf n 36 (omega (arith, room, low)) (omega arith),
            inr (
              next,
              λ line column. part_read b line (reading rows cells) n 36 column (more next)
                  (omega (arith, room, low))
                  (λ at.
                  row_ends_step b line at rows cells (count_of n) (omega (arith, count, any))
                  (omega (arith, count, room))
                  ∙ ap (λ m. Ok (more (reading (rows ++ cells ∷ replicate (m - 1) []) []))) count),
              reads,
            ),
          )
