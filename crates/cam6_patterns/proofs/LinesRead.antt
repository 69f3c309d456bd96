-- Parts are read one after another, on whatever lines they stand.
use Rattle.std.proofs.Common.{◌≡◌, ◌≢◌, ◌<◌, ◌+◌, ◌⊎◌, ◌∙◌, ◌++◌, ℕ, List, [], ◌∷◌, inl, inr}
use Rattle.std.proofs.Common.{Bool, true, false, Result, Ok, length, cond, refl, ap, arith, ne_eqb, length-append}
use Rattle.std.specs.Prelude.{nat_lt, ◌==◌}
use Rattle.std.specs.List.{AllByRecursion}
use Rattle.cam6_show_frames.specs.Lines.{lines, begin_line}
use Rattle.cam6_patterns.specs.Pattern.{Pattern}
use Rattle.cam6_patterns.specs.Body.{Bounds, Read, Step, more, over, blank, is_counting, step}
use Rattle.cam6_patterns.specs.Body.{and_then, line_read}
use Rattle.cam6_patterns.specs.Faults.{fault}
use Rattle.cam6_patterns.specs.Reading.{within, on_body, and_later, lines_read, with_rows}
use Rattle.cam6_patterns.specs.Writing.{filled, line_length}
use Rattle.cam6_patterns.specs.declared.faults.PatternFault.{PatternFault}
use Rattle.cam6_patterns.specs.declared.faults.Cause.TheVariants.{Unexpected}
use Rattle.cam6_patterns.proofs.PartsRead.{append_read}
use Rattle.cam6_patterns.proofs.Stages.{lines_done}

-- no LF
abbrev pub NoLf : List ℕ → Type 0
NoLf bytes = AllByRecursion (λ b. b ≢ 10) bytes

-- bytes without an LF stand on the first line of what comes after them
pub lines_after : (bytes text first : List ℕ) (later : List (List ℕ)) → NoLf bytes
    → lines text ≡ first ∷ later → lines (bytes ++ text) ≡ (bytes ++ first) ∷ later
lines_after [] text first later free is = is
lines_after (b ∷ bytes) text first later free is =
    rw (ne_eqb b 10 free.0) (ap (begin_line b) (lines_after bytes text first later free.1 is))

-- a text's first line and the later ones
abbrev pub SomeLine : List ℕ → Type 0
SomeLine text = (first : List ℕ) × (later : List (List ℕ)) × (lines text ≡ first ∷ later)

-- a text with a byte has a line
some_line : (text : List ℕ) → 0 < length text → SomeLine text
some_line [] some = absurd (omega (arith, some))
some_line (b ∷ bytes) some = by_lf (b == 10) (lines bytes)
  where
    by_lf : (t : Bool) (ls : List (List ℕ))
        → (first : List ℕ) × (later : List (List ℕ))
        × (cond t ([] ∷ ls) (begin_line b ls) ≡ first ∷ later)
    by_lf true ls = ([], ls, refl)
    by_lf false [] = (b ∷ [], [], refl)
    by_lf false (line ∷ ls) = (b ∷ line, ls, refl)

-- so has a text of parts
filled_is_some : (used : ℕ) (parts : List (List ℕ)) → 0 < length (filled used parts)
filled_is_some used [] = omega arith
filled_is_some used (part ∷ parts) =
    by_fit (nat_lt line_length (used + length part)) (filled_is_some (used + length part) parts)
  where
    by_fit : (t : Bool) → 0 < length (filled (used + length part) parts)
        → 0 < length (cond t (10 ∷ (part ++ filled (length part) parts))
        (part ++ filled (used + length part) parts))
    by_fit true some = omega arith
    by_fit false some = omega (arith, length-append part (filled (used + length part) parts), some)

filled_lines : (used : ℕ) (parts : List (List ℕ)) → SomeLine (filled used parts)
filled_lines used parts = some_line (filled used parts) (filled_is_some used parts)

module _ (b : Bounds) where
  -- a part makes this of what was read, wherever it stands
  abbrev pub Leads : List ℕ → Read → Step → Type 0
  Leads part r s = (line column : ℕ) → line_read b line part column r ≡ Ok s

  -- parts, one after another, make these rows of what was read
  abbrev pub Reads : List (List ℕ) → Read → List (List ℕ) → Type 0
  Reads [] r rows = ⊥
  Reads (part ∷ parts) r rows =
      (is_counting r.count ≡ false) × NoLf part
      × (Leads part r (over rows)
      ⊎ ((next : Read) × Leads part r (more next) × Reads parts next rows))

module _ (side most : ℕ) (b : Bounds) (p : Pattern) where
  -- what is left of a line, and the later lines
  abbrev pub rest_read : List ℕ → List (List ℕ) → ℕ → ℕ → ℕ → Read → Result Pattern PatternFault
  rest_read first later line column last r =
      and_later
      (on_body p b
      (and_then (line_read b line first column r) (λ next. step b line last next blank)))
      (lines_read side most later line)

  module _ (part first : List ℕ) (later : List (List ℕ)) (line column last : ℕ) (r : Read) where
    -- a part is read before the rest of its line
    by_part : (s : Step) → line_read b line part column r ≡ Ok s
        → rest_read (part ++ first) later line column last r
        ≡ and_later (on_body p b (and_then
        (and_then (Ok s) (line_read b line first (column + length part)))
        (λ next. step b line last next blank))) (lines_read side most later line)
    by_part s leads =
        ap (λ x. and_later (on_body p b (and_then x (λ next. step b line last next blank)))
        (lines_read side most later line))
        (append_read b line part first column r
        ∙ ap (λ x. and_then x (line_read b line first (column + length part))) leads)

    -- after the end there may be anything
    part_over : (rows : List (List ℕ)) → line_read b line part column r ≡ Ok (over rows)
        → rest_read (part ++ first) later line column last r ≡ Ok (with_rows p rows)
    part_over rows leads =
        by_part (over rows) leads ∙ lines_done side most later line (with_rows p rows)

    -- or the rest is read after it
    part_more : (next : Read) → line_read b line part column r ≡ Ok (more next)
        → rest_read (part ++ first) later line column last r
        ≡ rest_read first later line (column + length part) last next
    part_more next leads = by_part (more next) leads

  -- whatever is left of the line, and wherever it stands
  abbrev AllRead : List (List ℕ) → Read → List (List ℕ) → Type 0
  AllRead parts r rows =
      (used line column last : ℕ) (first : List ℕ) (later : List (List ℕ))
      → lines (filled used parts) ≡ first ∷ later
      → rest_read first later line column last r ≡ Ok (with_rows p rows)

  module _ (part : List ℕ) (parts : List (List ℕ)) (r : Read) (rows : List (List ℕ))
      (reads : Reads b (part ∷ parts) r rows)
      (next_read : (next : Read) → Reads b parts next rows → AllRead parts next rows) where
    -- a part stands on the first line of those after it
    cut : (used : ℕ) → lines (part ++ filled used parts)
        ≡ (part ++ (filled_lines used parts).0) ∷ (filled_lines used parts).1
    cut used =
        let begun : SomeLine (filled used parts) = filled_lines used parts in
        lines_after part (filled used parts) begun.0 begun.1 reads.1 begun.2

    -- on the line under way
    here_read : (used line column last : ℕ)
        → rest_read (part ++ (filled_lines used parts).0) (filled_lines used parts).1 line column
        last r
        ≡ Ok (with_rows p rows)
    here_read used line column last =
        let begun : SomeLine (filled used parts) = filled_lines used parts in
        elim reads.2 [
          | inl leads ↦ part_over part begun.0 begun.1 line column last r rows (leads line column)
          | inr going ↦
              part_more part begun.0 begun.1 line column last r going.0 (going.1 line column)
              ∙ next_read going.0 going.2 used line (column + length part) last begun.0 begun.1
              begun.2
        ]

    -- a line's end changes nothing
    idle : (line last : ℕ) → step b line last r blank ≡ Ok (more r)
    idle line last = ap (λ t. cond t (fault line last Unexpected) (Ok (more r))) reads.0

    -- on a line of its own
    on_next_line : (line column last : ℕ)
        → rest_read [] (lines (part ++ filled (length part) parts)) line column last r
        ≡ Ok (with_rows p rows)
    on_next_line line column last =
        let text : List ℕ = part ++ filled (length part) parts in
        let begun : SomeLine (filled (length part) parts) = filled_lines (length part) parts in
        ap (λ s. and_later (on_body p b s) (lines_read side most (lines text) line))
        (idle line last)
        ∙ ap (λ ls. lines_read side most ls line (within p b r)) (cut (length part))
        ∙ here_read (length part) (line + 1) 1 (length (part ++ begun.0) + 1)

    -- the lines are those that were begun
    same_rest : (first front : List ℕ) (later back : List (List ℕ)) → front ∷ back ≡ first ∷ later
        → (line column last : ℕ) → rest_read front back line column last r ≡ Ok (with_rows p rows)
        → rest_read first later line column last r ≡ Ok (with_rows p rows)
    same_rest first front later back is line column last read =
        let one : first ≡ front = cc in
        let others : later ≡ back = cc in
        ap (λ l. rest_read l later line column last r) one
        ∙ ap (λ ls. rest_read front ls line column last r) others ∙ read

    -- whether the part fits on the line or not
    by_fit : (used line column last : ℕ) (first : List ℕ) (later : List (List ℕ)) (t : Bool)
        → lines (cond t (10 ∷ (part ++ filled (length part) parts))
        (part ++ filled (used + length part) parts)) ≡ first ∷ later
        → rest_read first later line column last r ≡ Ok (with_rows p rows)
    by_fit used line column last first later true is =
        same_rest first [] later (lines (part ++ filled (length part) parts)) is line column last
        (on_next_line line column last)
    by_fit used line column last first later false is =
        let n : ℕ = used + length part in
        let begun : SomeLine (filled n parts) = filled_lines n parts in
        let same : (part ++ begun.0) ∷ begun.1 ≡ first ∷ later = cc (cut n) in
        same_rest first (part ++ begun.0) later begun.1 same line column last
        (here_read n line column last)

  -- each part is read before the others
  all_read : (parts : List (List ℕ)) (r : Read) (rows : List (List ℕ)) → Reads b parts r rows
      → AllRead parts r rows
  all_read [] r rows reads used line column last first later is = absurd reads
  all_read (part ∷ parts) r rows reads used line column last first later is =
      by_fit part parts r rows reads (λ next. all_read parts next rows) used line column last first
      later (nat_lt line_length (used + length part)) is

  -- parts are read as the lines that they fill
  pub filled_read : (parts : List (List ℕ)) (r : Read) (rows : List (List ℕ)) (line : ℕ)
      → Reads b parts r rows
      → lines_read side most (lines (filled 0 parts)) line (within p b r) ≡ Ok (with_rows p rows)
  filled_read parts r rows line reads =
      let begun : SomeLine (filled 0 parts) = filled_lines 0 parts in
      ap (λ ls. lines_read side most ls line (within p b r)) begun.2
      ∙ all_read parts r rows reads 0 (line + 1) 1 (length begun.0 + 1) begun.0 begun.1 begun.2
