-- The positions of a word by a binary digit, and one swap of two words.
use Rattle.std.proofs.Common.{◌≡◌, ℕ, ◌+◌, ◌-◌, ◌*◌, ◌<◌, ◌≤◌, List, [], get_or, nat_eq}
use Rattle.std.proofs.Common.{true, sym, ◌∙◌, ap, arith}
use Rattle.std.specs.Int.{bit_at}
use Rattle.std.proofs.lemmas.Bool.{eqb-true}
use native.Mathlib.Decide.{dec_lt}
use Rattle.cam6_planes.proofs.AllBelow.{all_below, at_each}
use Rattle.cam6_lookup.specs.Transposed.{worth, digit_of, cell, swapped_row, swapped_position}
use Rattle.cam6_lookup.specs.declared.digits.Digit.{Digit}
use Rattle.cam6_lookup.specs.declared.digits.Digit.TheVariants.{One, Two, Four, Eight}

-- a mask has the positions that have the digit 0, by a test of each of the 64
pub zeros_at : (digit : Digit) (mask : ℕ) →
    all_below (λ p. nat_eq (bit_at mask p) (1 - digit_of digit p)) 64 ≡ true →
    (p : ℕ) → p < 64 → bit_at mask p ≡ 1 - digit_of digit p
zeros_at digit mask tested p h =
    eqb-true _ _
    (at_each (λ p. nat_eq (bit_at mask p) (1 - digit_of digit p)) 64 p h tested)

-- and those that have the digit 1
pub ones_at : (digit : Digit) (mask : ℕ) →
    all_below (λ p. nat_eq (bit_at mask p) (digit_of digit p)) 64 ≡ true →
    (p : ℕ) → p < 64 → bit_at mask p ≡ digit_of digit p
ones_at digit mask tested p h =
    eqb-true _ _ (at_each (λ p. nat_eq (bit_at mask p) (digit_of digit p)) 64 p h tested)

-- a number with the digit 1 is not less than what the digit is worth, and has the digit 0 that much
-- below
pub below_one : (digit : Digit) (n : ℕ) → digit_of digit n ≡ 1 →
    (worth digit ≤ n) × (digit_of digit (n - worth digit) ≡ 0)
below_one One n e = (omega (arith, e), omega (arith, e))
below_one Two n e = (omega (arith, e), omega (arith, e))
below_one Four n e = (omega (arith, e), omega (arith, e))
below_one Eight n e = (omega (arith, e), omega (arith, e))

-- one with the digit 0 has it 1 that much below
pub below_zero : (digit : Digit) (n : ℕ) → digit_of digit n ≡ 0 → worth digit ≤ n →
    digit_of digit (n - worth digit) ≡ 1
below_zero One n e h = omega (arith, e, h)
below_zero Two n e h = omega (arith, e, h)
below_zero Four n e h = omega (arith, e, h)
below_zero Eight n e h = omega (arith, e, h)

-- a row with the digit 0 has one of the sixteen that much further
pub row_further : (digit : Digit) (k : ℕ) → k < 16 → digit_of digit k ≡ 0 → k + worth digit < 16
row_further One k h e = omega (arith, h, e)
row_further Two k h e = omega (arith, h, e)
row_further Four k h e = omega (arith, h, e)
row_further Eight k h e = omega (arith, h, e)

digit-lt : (digit : Digit) (n : ℕ) → digit_of digit n < 2
digit-lt digit n = omega arith

module _ (digit : Digit) (rows : List (List ℕ)) (k i word : ℕ) where
  abbrev s : ℕ
  s = worth digit

  abbrev word_at : ℕ → ℕ
  word_at row = get_or (get_or rows row []) i 0

  -- the cell that comes to position p of row k
  at_swapped : (p row position : ℕ) → swapped_row digit k p ≡ row → swapped_position digit k p ≡ position →
      bit_at (word_at row) position ≡ cell rows (swapped_row digit k p) i (swapped_position digit k p)
  unfolding cell
  at_swapped p row position e f =
      sym (ap (λ n. bit_at (word_at n) (swapped_position digit k p)) e ∙ ap (bit_at (word_at row)) f)

  -- the first word of a swap, whose row has the digit 0
  pub first_cell : digit_of digit k ≡ 0 →
      ((p : ℕ) → p < 64 → digit_of digit p ≡ 0 → bit_at word p ≡ bit_at (word_at k) p) →
      ((p : ℕ) → p < 64 → digit_of digit p ≡ 1 →
      bit_at word p ≡ bit_at (word_at (k + s)) (p - s)) →
      (p : ℕ) → p < 64 →
      bit_at word p ≡ cell rows (swapped_row digit k p) i (swapped_position digit k p)
  first_cell even kept taken p h =
      let row = ap (λ n. s * n) even in
      elim (dec_lt (digit_of digit p) 1) [
        | Prim.yes lt ↦
            let e : digit_of digit p ≡ 0 = omega arith in
            let position = ap (λ n. s * n) e in
            kept p h e ∙
            at_swapped p k p (omega (arith, row, position)) (omega (arith, row, position))
        | Prim.no ge ↦
            let e : digit_of digit p ≡ 1 = omega (arith, digit-lt digit p) in
            let position = ap (λ n. s * n) e in
            taken p h e ∙
            at_swapped p (k + s) (p - s) (omega (arith, row, position)) (omega (arith, row, position))
      ]

  -- and the second, whose row has it 1
  pub second_cell : digit_of digit k ≡ 1 →
      ((p : ℕ) → p < 64 → digit_of digit p ≡ 0 →
      bit_at word p ≡ bit_at (word_at (k - s)) (p + s)) →
      ((p : ℕ) → p < 64 → digit_of digit p ≡ 1 → bit_at word p ≡ bit_at (word_at k) p) →
      (p : ℕ) → p < 64 →
      bit_at word p ≡ cell rows (swapped_row digit k p) i (swapped_position digit k p)
  second_cell odd taken kept p h =
      let row = ap (λ n. s * n) odd in
      elim (dec_lt (digit_of digit p) 1) [
        | Prim.yes lt ↦
            let e : digit_of digit p ≡ 0 = omega arith in
            let position = ap (λ n. s * n) e in
            taken p h e ∙
            at_swapped p (k - s) (p + s) (omega (arith, row, position)) (omega (arith, row, position))
        | Prim.no ge ↦
            let e : digit_of digit p ≡ 1 = omega (arith, digit-lt digit p) in
            let position = ap (λ n. s * n) e in
            kept p h e ∙
            at_swapped p k p (omega (arith, row, position)) (omega (arith, row, position))
      ]
