-- What is read is a pattern.
use Rattle.std.proofs.Common.{◌≡◌, ◌<◌, ◌≤◌, ◌+◌, ◌-◌, ◌%◌, ℕ, List, [], ◌∷◌, Bool, true, false, arith}
use Rattle.std.proofs.Common.{Option, Some, None, Result, Ok, Err, length, cond, refl, subst}
use Rattle.std.proofs.Math.Nat.{mod-lt}
use Rattle.std.specs.Prelude.{All, nat_lt, ◌==◌, if◌then◌else◌, option_map, option_and_then, codes}
use Rattle.std.specs.List.{AllByRecursion}
use Rattle.std.proofs.lemmas.Bool.{ltb-false}
use Rattle.cam6_show_frames.specs.Lines.{lines}
use Rattle.cam6_patterns.specs.Pattern.{Pattern, IsPattern, most_cells, most_states}
use Rattle.cam6_patterns.specs.Faults.{fault}
use Rattle.cam6_patterns.specs.Header.{if_none, number_at_front, offset_at_front, corner_at_front}
use Rattle.cam6_patterns.specs.Header.{strip_prefix, after_first, corner_in, extents_in, past_blanks}
use Rattle.cam6_patterns.specs.Body.{Bounds, Step, more, over, nothing_read, whole_line_read}
use Rattle.cam6_patterns.specs.Reading.{Stage, before, within, done, box, on_header, on_head}
use Rattle.cam6_patterns.specs.Reading.{with_rows, on_body, on_line, at_end, and_later, lines_read}
use Rattle.cam6_patterns.specs.Reading.{pattern_in}
use Rattle.cam6_patterns.specs.declared.faults.PatternFault.{PatternFault}
use Rattle.cam6_patterns.specs.declared.faults.Cause.TheVariants.{TooWide, TooHigh}
use Rattle.cam6_patterns.proofs.Each.{each_more}
use Rattle.cam6_patterns.proofs.Bounded.{FitRows, Fits, StepFits, nothing_fits, whole_line_fits}

-- what is known of a value if there is one
abbrev Where : {A : Type 0} → (A → Type 0) → Option A → Type 0
Where P None = Unit {0}
Where P (Some x) = P x

where_map : {A B : Type 0} (P : B → Type 0) (f : A → B) (o : Option A) → ((x : A) → P (f x))
    → Where P (option_map f o)
where_map P f None all = tt
where_map P f (Some x) all = all x

where_then : {A B : Type 0} (Q : A → Type 0) (P : B → Type 0) (f : A → Option B) (o : Option A)
    → Where Q o → ((x : A) → Q x → Where P (f x)) → Where P (option_and_then f o)
where_then Q P f None now next = tt
where_then Q P f (Some x) now next = next x now

where_either : {A : Type 0} (P : A → Type 0) (first second : Option A) → Where P first
    → Where P second → Where P (if_none first second)
where_either P None second one other = other
where_either P (Some x) second one other = one

-- a corner on the largest torus
abbrev IsCorner : ℕ × ℕ → Type 0
IsCorner corner = (corner.0 < most_cells) × (corner.1 < most_cells)

-- a whole number on its ring
abbrev IsOffset : ℕ × List ℕ → Type 0
IsOffset offset = offset.0 < most_cells

offset_fits : (bytes : List ℕ) → Where IsOffset (offset_at_front bytes)
offset_fits [] = tt
offset_fits (b ∷ bytes) =
    elim (b == 45) as (λ t. Where IsOffset (cond t
    (option_map (λ n. ((most_cells - n.0 % most_cells) % most_cells, n.1)) (number_at_front bytes))
    (option_map (λ n. (n.0 % most_cells, n.1)) (number_at_front (b ∷ bytes))))) [
      | true ↦ where_map IsOffset (λ n. ((most_cells - n.0 % most_cells) % most_cells, n.1))
          (number_at_front bytes) (λ n. mod-lt (most_cells - n.0 % most_cells) (omega arith))
      | false ↦ where_map IsOffset (λ n. (n.0 % most_cells, n.1)) (number_at_front (b ∷ bytes))
          (λ n. mod-lt n.0 (omega arith))
    ]

corner_fits : (between : ℕ) (bytes : List ℕ) → Where IsCorner (corner_at_front between bytes)
corner_fits between bytes =
    where_then IsOffset IsCorner
    (λ column. option_map (λ row. (column.0, row.0))
    (option_and_then offset_at_front (strip_prefix (between ∷ []) column.1)))
    (offset_at_front bytes) (offset_fits bytes)
    (λ column first. second column first (option_and_then offset_at_front (strip_prefix (between ∷ []) column.1))
    (where_then (λ _. Unit {0}) IsOffset offset_at_front (strip_prefix (between ∷ []) column.1)
    (anything (strip_prefix (between ∷ []) column.1)) (λ rest _. offset_fits rest)))
  where
    anything : (o : Option (List ℕ)) → Where (λ _. Unit {0}) o
    anything None = tt
    anything (Some x) = tt

    second : (column : ℕ × List ℕ) → IsOffset column → (row : Option (ℕ × List ℕ)) → Where IsOffset row
        → Where IsCorner (option_map (λ row. (column.0, row.0)) row)
    second column first None other = tt
    second column first (Some row) other = (first, other)

after_fits : (between : ℕ) (o : Option (List ℕ))
    → Where IsCorner (option_and_then (corner_at_front between) o)
after_fits between None = tt
after_fits between (Some rest) = corner_fits between rest

remark_fits : (line : List ℕ) → Where IsCorner (corner_in line)
remark_fits line =
    where_either IsCorner _ _ (position (strip_prefix (codes "#CXRLE ") line))
    (where_either IsCorner _ _ (after_fits 32 (strip_prefix (codes "#P ") line))
    (after_fits 32 (strip_prefix (codes "#R ") line)))
  where
    position : (o : Option (List ℕ)) → Where IsCorner (option_and_then
        (λ rest. option_and_then (corner_at_front 44) (after_first (codes "Pos=") rest)) o)
    position None = tt
    position (Some rest) = after_fits 44 (after_first (codes "Pos=") rest)

-- a box on a torus of a side, without rows
record IsBox (states : ℕ) (p : Pattern) (b : Bounds) : Type 0 where
  pub wide : b.width ≡ p.width
  pub high : b.height ≡ p.height
  pub few : b.states ≡ states
  pub width : p.width ≤ most_cells
  pub height : p.height ≤ most_cells
  pub column : p.column < most_cells
  pub row : p.row < most_cells

filled : (states : ℕ) (p : Pattern) (b : Bounds) → IsBox states p b → (rows : List (List ℕ))
    → FitRows b rows → IsPattern states (with_rows p rows)
filled states p b box rows fits = record {
  width = box.width;
  height = box.height;
  column = box.column;
  row = box.row;
  high = omega (arith, fits.high, box.high);
  wide = λ k d h. omega (arith, fits.wide k d h, box.wide);
  few = subst (λ n. All (AllByRecursion (λ state. state < n)) rows) box.few fits.few;
}

module _ (side states : ℕ) (largest : side ≤ most_cells) where
  abbrev StageFits : Stage → Type 0
  StageFits (before corner) = Where IsCorner corner
  StageFits (within p b r) = IsBox states p b × Fits b r
  StageFits (done p) = IsPattern states p

  abbrev Reached : Result Stage PatternFault → Type 0
  Reached (Err f) = Unit {0}
  Reached (Ok stage) = StageFits stage

  by_test : (t : Bool) (x y : Result Stage PatternFault) → (t ≡ true → Reached x)
      → (t ≡ false → Reached y) → Reached (cond t x y)
  by_test true x y first second = first refl
  by_test false x y first second = second refl

  box_fits : (corner : Option (ℕ × ℕ)) (wide high : ℕ) → Where IsCorner corner → wide ≤ side
      → high ≤ side
      → IsBox states (box corner (wide, high)) (record { width = wide; height = high; states = states })
  box_fits None wide high lies w h = record {
    wide = refl;
    high = refl;
    few = refl;
    width = omega (arith, w);
    height = omega (arith, h);
    column = omega arith;
    row = omega arith;
  }
  box_fits (Some corner) wide high lies w h = record {
    wide = refl;
    high = refl;
    few = refl;
    width = omega (arith, w);
    height = omega (arith, h);
    column = lies.0;
    row = lies.1;
  }

  header_fits : (line : ℕ) (corner extents : Option (ℕ × ℕ)) → Where IsCorner corner
      → Reached (on_header side states line corner extents)
  header_fits line corner None lies = tt
  header_fits line corner (Some extents) lies =
      let b : Bounds = record { width = extents.0; height = extents.1; states = states } in
      let start : Stage = within (box corner extents) b nothing_read in
      by_test (nat_lt side extents.0) (fault line 1 TooWide)
      (if nat_lt side extents.1 then fault line 1 TooHigh else Ok start) (λ _. tt)
      (λ wide. by_test (nat_lt side extents.1) (fault line 1 TooHigh) (Ok start) (λ _. tt)
      (λ high. (
        box_fits corner extents.0 extents.1 lies (ltb-false side extents.0 wide)
            (ltb-false side extents.1 high),
        nothing_fits b,
      )))

  head_fits : (line : ℕ) (corner : Option (ℕ × ℕ)) (bytes : List ℕ) → Where IsCorner corner
      → Reached (on_head side states line corner bytes)
  head_fits line corner [] lies = lies
  head_fits line corner (b ∷ bytes) lies =
      let header : Result Stage PatternFault =
      on_header side states line corner (extents_in (b ∷ bytes)) in
      by_test (b == 35) (Ok (before (if_none (corner_in (b ∷ bytes)) corner)))
      (if length (past_blanks (b ∷ bytes)) == 0 then Ok (before corner) else header)
      (λ _. where_either IsCorner (corner_in (b ∷ bytes)) corner (remark_fits (b ∷ bytes)) lies)
      (λ _. by_test (length (past_blanks (b ∷ bytes)) == 0) (Ok (before corner)) header (λ _. lies)
      (λ _. header_fits line corner (extents_in (b ∷ bytes)) lies))

  body_fits : (p : Pattern) (b : Bounds) → IsBox states p b → (s : Result Step PatternFault)
      → StepFits b s → Reached (on_body p b s)
  body_fits p b box (Err f) fits = tt
  body_fits p b box (Ok (over rows)) fits = filled states p b box rows fits
  body_fits p b box (Ok (more r)) fits = (box, fits)

  stage_fits : (line : ℕ) (stage : Stage) (bytes : List ℕ) → StageFits stage
      → Reached (on_line side states line stage bytes)
  stage_fits line (before corner) bytes fits = head_fits line corner bytes fits
  stage_fits line (within p b r) bytes fits =
      body_fits p b fits.0 (whole_line_read b line bytes r) (whole_line_fits b line bytes r fits.1)
  stage_fits line (done p) bytes fits = fits

  abbrev Given : Result Pattern PatternFault → Type 0
  Given (Err f) = Unit {0}
  Given (Ok p) = IsPattern states p

  end_fits : (n : ℕ) (stage : Stage) → StageFits stage → Given (at_end n stage)
  end_fits n (before corner) fits = tt
  end_fits n (within p b r) fits = tt
  end_fits n (done p) fits = fits

  later_fits : (s : Result Stage PatternFault) (later : Stage → Result Pattern PatternFault)
      → Reached s → ((stage : Stage) → StageFits stage → Given (later stage))
      → Given (and_later s later)
  later_fits (Err f) later now next = tt
  later_fits (Ok stage) later now next = next stage now

  lines_fit : (ls : List (List ℕ)) (n : ℕ) (stage : Stage) → StageFits stage
      → Given (lines_read side states ls n stage)
  lines_fit [] n stage fits = end_fits n stage fits
  lines_fit (line ∷ ls) n stage fits =
      later_fits (on_line side states (n + 1) stage line) (lines_read side states ls (n + 1))
      (stage_fits (n + 1) stage line fits) (lines_fit ls (n + 1))

  given_text : (text : List ℕ) → Given (pattern_in side states text)
  unfolding pattern_in
  given_text text = lines_fit (lines text) 0 (before None) tt

  -- what is read of a text is a pattern
  pub text_is_pattern : (text : List ℕ) (p : Pattern) → states ≤ most_states
      → pattern_in side states text ≡ Ok p → IsPattern most_states p
  text_is_pattern text p few said =
      let is : IsPattern states p = subst Given said (given_text text) in
      record {
        width = is.width;
        height = is.height;
        column = is.column;
        row = is.row;
        high = is.high;
        wide = is.wide;
        few = λ k d h. each_more (λ s. s < states) (λ s. s < most_states)
            (λ s less. omega (arith, less, few)) _ (is.few k d h);
      }
