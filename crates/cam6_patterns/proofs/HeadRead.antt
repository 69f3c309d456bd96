-- The header is read as the width and the height that it was written for.
use Rattle.std.proofs.Common.{◌≡◌, ◌≢◌, ◌<◌, ◌≤◌, ◌+◌, ◌-◌, ◌*◌, ◌/◌, ◌%◌, ◌∙◌, ◌++◌}
use Rattle.std.proofs.Common.{ℕ, zero, suc, List, [], ◌∷◌, Bool, true, false, Option, None, Some}
use Rattle.std.proofs.Common.{Ok, length, cond, refl, sym, ap, arith, append_assoc, ne_eqb}
use Rattle.std.specs.Prelude.{decimal, codes, ◌==◌, nat_lt, nat_le, if◌then◌else◌, option_and_then}
use Rattle.std.proofs.lemmas.Bool.{ltb-true, ltb-false, le-ltb, lt-ltb, le-leb}
use Rattle.cam6_patterns.specs.Pattern.{most_cells}
use Rattle.cam6_patterns.specs.Header.{past_blanks, number_after, number_at_front}
use Rattle.cam6_patterns.specs.Header.{after_sign, extent_at_front, ends_header, extents_in}
use Rattle.cam6_patterns.specs.Writing.{header}
use Rattle.cam6_patterns.specs.Body.{nothing_read}
use Rattle.cam6_patterns.specs.Reading.{before, within, box, on_header, on_head}
use Rattle.cam6_patterns.proofs.Each.{each_append}
use Rattle.cam6_patterns.proofs.PartsRead.{digits_by, decimal_is}
use Rattle.cam6_patterns.proofs.LinesRead.{NoLf}
use Rattle.cam6_patterns.proofs.SignsRead.{number_without_lf}

-- a digit after a number
digit_after : (n byte : ℕ) (rest : List ℕ) → 48 ≤ byte → byte < 58
    → number_after n (byte ∷ rest) ≡ number_after (10 * n + (byte - 48)) rest
digit_after n byte rest low high =
    let from : nat_le 48 byte ≡ true = le-leb 48 byte low in
    let to : nat_lt byte 58 ≡ true = lt-ltb byte 58 high in
    rw (from, to) refl

-- a number's digits are read back, whatever comes after them
digits_after : (k n : ℕ) (rest : List ℕ) → n < k
    → number_after 0 (digits_by k n ++ rest) ≡ number_after n rest
digits_after zero n rest fuel = absurd (omega (arith, fuel))
digits_after (suc k) n rest fuel =
    by_size (nat_lt n 10) refl
    (λ ten. digits_after k (n / 10) ((48 + n % 10) ∷ rest) (omega (arith, ten, fuel)))
  where
    by_size : (t : Bool) → nat_lt n 10 ≡ t
        → (10 ≤ n → number_after 0 (digits_by k (n / 10) ++ (48 + n % 10) ∷ rest)
        ≡ number_after (n / 10) ((48 + n % 10) ∷ rest))
        → number_after 0
        (cond t ((48 + n) ∷ []) (digits_by k (n / 10) ++ (48 + n % 10) ∷ []) ++ rest)
        ≡ number_after n rest
    by_size true small front =
        let same : 10 * 0 + (48 + n - 48) ≡ n = omega arith in
        digit_after 0 (48 + n) rest (omega arith) (omega (arith, ltb-true n 10 small))
        ∙ ap (λ m. number_after m rest) same
    by_size false large front =
        let same : 10 * (n / 10) + (48 + n % 10 - 48) ≡ n = omega arith in
        ap (number_after 0) (append_assoc (digits_by k (n / 10)) ((48 + n % 10) ∷ []) rest)
        ∙ front (ltb-false n 10 large)
        ∙ digit_after (n / 10) (48 + n % 10) rest (omega arith) (omega arith)
        ∙ ap (λ m. number_after m rest) same

-- the first digit, and the others
abbrev BeginsWithDigit : List ℕ → Type 0
BeginsWithDigit bytes =
    (byte : ℕ) × (later : List ℕ) × (48 ≤ byte) × (byte < 58) × (bytes ≡ byte ∷ later)

-- digits begin with a digit
digits_begin : (k n : ℕ) → n < k → BeginsWithDigit (digits_by k n)
digits_begin zero n fuel = absurd (omega (arith, fuel))
digits_begin (suc k) n fuel =
    by_size (nat_lt n 10) refl (λ ten. digits_begin k (n / 10) (omega (arith, ten, fuel)))
  where
    by_size : (t : Bool) → nat_lt n 10 ≡ t → (10 ≤ n → BeginsWithDigit (digits_by k (n / 10)))
        → BeginsWithDigit (cond t ((48 + n) ∷ []) (digits_by k (n / 10) ++ (48 + n % 10) ∷ []))
    by_size true small front = (48 + n, [], omega arith, omega (arith, ltb-true n 10 small), refl)
    by_size false large front =
        let begun : BeginsWithDigit (digits_by k (n / 10)) = front (ltb-false n 10 large) in (
          begun.0,
          begun.1 ++ (48 + n % 10) ∷ [],
          begun.2,
          begun.3,
          ap (λ l. l ++ (48 + n % 10) ∷ []) begun.4,
        )

-- a digit is no blank, and begins a number
digit_in_front : (byte : ℕ) (later : List ℕ) → 48 ≤ byte → byte < 58
    → number_at_front (past_blanks (byte ∷ later)) ≡ Some (number_after 0 (byte ∷ later))
digit_in_front byte later low high =
    let no_space : (byte == 32) ≡ false = ne_eqb byte 32 (omega (arith, low)) in
    let no_tab : (byte == 9) ≡ false = ne_eqb byte 9 (omega (arith, low)) in
    let no_return : (byte == 13) ≡ false = ne_eqb byte 13 (omega (arith, low)) in
    let from : nat_le 48 byte ≡ true = le-leb 48 byte low in
    let to : nat_lt byte 58 ≡ true = lt-ltb byte 58 high in
    let same : byte - 48 ≡ 10 * 0 + (byte - 48) = omega arith in
    rw (no_space, no_tab, no_return, from, to) (ap (λ m. Some (number_after m later)) same)

-- a number is read back
number_in_front : (n : ℕ) (rest : List ℕ) → n ≤ most_cells
    → number_at_front (past_blanks (decimal n ++ rest)) ≡ Some (number_after n rest)
number_in_front n rest few =
    let begun : BeginsWithDigit (digits_by (n + 20) n) = digits_begin (n + 20) n (omega arith) in
    let bytes : decimal n ++ rest ≡ begun.0 ∷ (begun.1 ++ rest) =
    ap (λ l. l ++ rest) (decimal_is n few ∙ begun.4) in
    ap (λ l. number_at_front (past_blanks l)) bytes
    ∙ digit_in_front begun.0 (begun.1 ++ rest) begun.2 begun.3
    ∙ ap (λ l. Some (number_after 0 l)) (sym (ap (λ l. l ++ rest) begun.4))
    ∙ ap Some (digits_after (n + 20) n rest (omega arith))

-- the name of a rule, if there is one
abbrev pub rule_part : List ℕ → List ℕ
rule_part rule = if length rule == 0 then [] else codes ", rule = " ++ rule

-- the header without its LF
abbrev pub head_line : ℕ → ℕ → List ℕ → List ℕ
head_line width height ending =
    codes "x = " ++ (decimal width ++ (codes ", y = " ++ (decimal height ++ ending)))

-- the header is its line and an LF
pub header_is_line : (width height : ℕ) (rule text : List ℕ)
    → header width height rule ++ text ≡ head_line width height (rule_part rule) ++ 10 ∷ text
header_is_line width height rule text =
    regroup (codes "x = ") (decimal width) (codes ", y = ") (decimal height) (rule_part rule)
    (codes "\n") text
  where
    regroup : (a b c d e f g : List ℕ)
        → (((((a ++ b) ++ c) ++ d) ++ e) ++ f) ++ g ≡ (a ++ (b ++ (c ++ (d ++ e)))) ++ (f ++ g)
    regroup a b c d e f g = simp append_assoc

-- no LF
abbrev free : ℕ → Type 0
free b = b ≢ 10

-- there is no LF in it
pub line_without_lf : (width height : ℕ) (rule : List ℕ) → width ≤ most_cells → height ≤ most_cells → NoLf rule
    → NoLf (head_line width height (rule_part rule))
line_without_lf width height rule narrow low one_line =
    each_append free (codes "x = ")
    (decimal width ++ (codes ", y = " ++ (decimal height ++ rule_part rule)))
    (omega arith, (omega arith, (omega arith, (omega arith, tt))))
    (each_append free (decimal width) (codes ", y = " ++ (decimal height ++ rule_part rule))
    (number_without_lf width narrow)
    (each_append free (codes ", y = ") (decimal height ++ rule_part rule)
    (omega arith, (omega arith, (omega arith, (omega arith, (omega arith, (omega arith, tt))))))
    (each_append free (decimal height) (rule_part rule) (number_without_lf height low)
    (by_rule (length rule == 0)))))
  where
    by_rule : (t : Bool) → NoLf (cond t [] (codes ", rule = " ++ rule))
    by_rule true = tt
    by_rule false = (
      omega arith,
      (
        omega arith,
        (
          omega arith,
          (
            omega arith,
            (
              omega arith,
              (omega arith, (omega arith, (omega arith, (omega arith, one_line)))),
            ),
          ),
        ),
      ),
    )

-- what comes after the height
abbrev ended : ℕ → ℕ × List ℕ → Option (ℕ × ℕ)
ended width high = if ends_header (past_blanks high.1) then Some (width, high.0) else None

-- what comes after the width
abbrev height_after : ℕ × List ℕ → Option (ℕ × ℕ)
height_after wide =
    option_and_then (ended wide.0) (option_and_then (extent_at_front 121) (after_sign 44 wide.1))

-- it says the width and the height
line_says : (width height : ℕ) (rule : List ℕ) → width ≤ most_cells → height ≤ most_cells
    → extents_in (head_line width height (rule_part rule)) ≡ Some (width, height)
line_says width height rule narrow low = by_rule (length rule == 0)
  where
    by_rule : (t : Bool)
        → extents_in (head_line width height (cond t [] (codes ", rule = " ++ rule)))
        ≡ Some (width, height)
    by_rule true =
        ap (option_and_then height_after)
        (number_in_front width (codes ", y = " ++ (decimal height ++ [])) narrow)
        ∙ ap (option_and_then (ended width)) (number_in_front height [] low)
    by_rule false =
        ap (option_and_then height_after)
        (number_in_front width
        (codes ", y = " ++ (decimal height ++ (codes ", rule = " ++ rule))) narrow)
        ∙ ap (option_and_then (ended width))
        (number_in_front height (codes ", rule = " ++ rule) low)

-- the cells come after it
pub line_is_header : (side most width height : ℕ) (rule : List ℕ) → side ≤ most_cells → width ≤ side
    → height ≤ side
    → on_head side most 1 None (head_line width height (rule_part rule))
    ≡ Ok (within (box None (width, height))
    (record { width = width; height = height; states = most }) nothing_read)
line_is_header side most width height rule largest narrow low =
    let line : List ℕ = head_line width height (rule_part rule) in
    let wide : nat_lt side width ≡ false = le-ltb side width narrow in
    let high : nat_lt side height ≡ false = le-ltb side height low in
    ap (λ t. cond t (Ok (before None)) (on_header side most 1 None (extents_in line)))
    (ne_eqb (length line) 0 (omega arith))
    ∙ ap (on_header side most 1 None)
    (line_says width height rule (omega (arith, narrow, largest)) (omega (arith, low, largest)))
    ∙ rw (wide, high) refl
