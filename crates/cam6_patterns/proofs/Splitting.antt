-- A text is split at its LFs, from the front.
use Rattle.std.proofs.Common.{◌≡◌, ◌≢◌, ◌<◌, ℕ, List, [], ◌∷◌, refl, ap, ◌∙◌}
use Rattle.std.proofs.Common.{zero, suc, length, take, drop, get_or, ne_eqb, arith, sym, take_all, drop-cons, length-drop, ◌≤◌}
use Rattle.std.proofs.lemmas.List.{drop_all}
use Rattle.cam6_show_frames.specs.Lines.{lines, begin_line}

-- none of the first n bytes is an LF
abbrev pub NoLfBelow : List ℕ → ℕ → Type 0
NoLfBelow text n = (k : ℕ) → k < n → get_or text k 0 ≢ 10

later_free : (b : ℕ) (text : List ℕ) (n : ℕ) → NoLfBelow (b ∷ text) (suc n) → NoLfBelow text n
later_free b text n free k h = free (suc k) (omega (arith, h))

-- up to its first LF a text is its first line
pub line_ends : (text : List ℕ) (n : ℕ) → n < length text → NoLfBelow text n
    → get_or text n 0 ≡ 10 → lines text ≡ take n text ∷ lines (drop (suc n) text)
line_ends [] n within free lf = absurd (omega (arith, within))
line_ends (b ∷ text) zero within free lf = rw lf refl
line_ends (b ∷ text) (suc n) within free lf =
    rw (ne_eqb b 10 (free 0 (omega arith)))
    (ap (begin_line b) (line_ends text n (omega (arith, within)) (later_free b text n free) lf))

-- without an LF a text is one line
pub only_line : (b : ℕ) (text : List ℕ) → NoLfBelow (b ∷ text) (length (b ∷ text))
    → lines (b ∷ text) ≡ (b ∷ text) ∷ []
only_line b [] free = rw (ne_eqb b 10 (free 0 (omega arith))) refl
only_line b (c ∷ text) free =
    rw (ne_eqb b 10 (free 0 (omega arith)))
    (ap (begin_line b) (only_line c text (later_free b (c ∷ text) (length (c ∷ text)) free)))

only_of_some : (text : List ℕ) → 0 < length text → NoLfBelow text (length text)
    → lines text ≡ text ∷ []
only_of_some [] some free = absurd (omega (arith, some))
only_of_some (b ∷ text) some free = only_line b text free

module _ (text line rest : List ℕ) (n : ℕ) (within : n ≤ length text) (free : NoLfBelow text n)
    (stops : n < length text → get_or text n 0 ≡ 10) (front : line ≡ take n text)
    (back : rest ≡ drop n text) where
  -- nothing comes after the only line
  pub whole_is_first : 0 < length text → length rest ≡ 0 → lines text ≡ line ∷ lines rest
  whole_is_first some none =
      let all : n ≡ length text = omega (arith, ap length back, length-drop n text, none) in
      let is_line : line ≡ text = front ∙ take_all n text (omega (arith, all)) in
      let is_rest : rest ≡ [] = back ∙ drop_all n text (omega (arith, all)) in
      rw (is_line, is_rest) (only_of_some text some (λ k h. free k (omega (arith, h, all))))

  -- an LF comes after the first one
  pub front_is_first : (lf : ℕ) (later : List ℕ) → rest ≡ lf ∷ later
      → lines text ≡ line ∷ lines later
  front_is_first lf later is =
      let before : n < length text = omega (arith, ap length (sym back ∙ is), length-drop n text) in
      let cut : lf ∷ later ≡ get_or text n 0 ∷ drop (suc n) text =
      sym is ∙ back ∙ drop-cons text n 0 before in
      let after : later ≡ drop (suc n) text = cc in
      rw (front, after) (line_ends text n before free (stops before))
