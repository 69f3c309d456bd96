-- Four swaps, one after another, as the check computes them for each row and position; and what holds of each
-- of sixteen rows, of twelve lines and of two words.
use Rattle.std.proofs.Common.{◌≡◌, ℕ, zero, suc, ◌+◌, ◌*◌, ◌/◌, ◌%◌, ◌<◌, Bool, true, nat_eq}
use Rattle.std.proofs.Common.{nat_lt, refl, arith, subst}
use Rattle.std.proofs.lemmas.Bool.{eqb-true, ltb-true}
use Rattle.cam6_planes.proofs.AllBelow.{all_below, at_each}
use Rattle.cam6_lookup.specs.Transposed.{swapped_row, swapped_position}
use Rattle.cam6_lookup.specs.declared.digits.Digit.TheVariants.{One, Two, Four, Eight}

-- where the rounds from the last on take the bit at position p of row k from
abbrev pub row_1 : ℕ → ℕ → ℕ
row_1 k p = swapped_row One k p

abbrev pub position_1 : ℕ → ℕ → ℕ
position_1 k p = swapped_position One k p

abbrev pub row_2 : ℕ → ℕ → ℕ
row_2 k p = swapped_row Two (row_1 k p) (position_1 k p)

abbrev pub position_2 : ℕ → ℕ → ℕ
position_2 k p = swapped_position Two (row_1 k p) (position_1 k p)

abbrev pub row_3 : ℕ → ℕ → ℕ
row_3 k p = swapped_row Four (row_2 k p) (position_2 k p)

abbrev pub position_3 : ℕ → ℕ → ℕ
position_3 k p = swapped_position Four (row_2 k p) (position_2 k p)

abbrev pub row_4 : ℕ → ℕ → ℕ
row_4 k p = swapped_row Eight (row_3 k p) (position_3 k p)

abbrev pub position_4 : ℕ → ℕ → ℕ
position_4 k p = swapped_position Eight (row_3 k p) (position_3 k p)

tested : (test : ℕ → ℕ → Bool) → all_below (λ k. all_below (test k) 64) 16 ≡ true →
    (k p : ℕ) → k < 16 → p < 64 → test k p ≡ true
tested test e k p h l = at_each (test k) 64 p l (at_each (λ k. all_below (test k) 64) 16 k h e)

pub row_1-lt : (k p : ℕ) → k < 16 → p < 64 → row_1 k p < 16
row_1-lt k p h l = ltb-true _ _ (tested (λ k p. nat_lt (row_1 k p) 16) refl k p h l)

pub position_1-lt : (k p : ℕ) → k < 16 → p < 64 → position_1 k p < 64
position_1-lt k p h l = ltb-true _ _ (tested (λ k p. nat_lt (position_1 k p) 64) refl k p h l)

pub row_2-lt : (k p : ℕ) → k < 16 → p < 64 → row_2 k p < 16
row_2-lt k p h l = ltb-true _ _ (tested (λ k p. nat_lt (row_2 k p) 16) refl k p h l)

pub position_2-lt : (k p : ℕ) → k < 16 → p < 64 → position_2 k p < 64
position_2-lt k p h l = ltb-true _ _ (tested (λ k p. nat_lt (position_2 k p) 64) refl k p h l)

pub row_3-lt : (k p : ℕ) → k < 16 → p < 64 → row_3 k p < 16
row_3-lt k p h l = ltb-true _ _ (tested (λ k p. nat_lt (row_3 k p) 16) refl k p h l)

pub position_3-lt : (k p : ℕ) → k < 16 → p < 64 → position_3 k p < 64
position_3-lt k p h l = ltb-true _ _ (tested (λ k p. nat_lt (position_3 k p) 64) refl k p h l)

pub row_4-is : (k p : ℕ) → k < 16 → p < 64 → row_4 k p ≡ p % 16
row_4-is k p h l = eqb-true _ _ (tested (λ k p. nat_eq (row_4 k p) (p % 16)) refl k p h l)

pub position_4-is : (k p : ℕ) → k < 16 → p < 64 → position_4 k p ≡ p / 16 * 16 + k
position_4-is k p h l =
    eqb-true _ _ (tested (λ k p. nat_eq (position_4 k p) (p / 16 * 16 + k)) refl k p h l)

-- what holds of each of two, three or four numbers holds of all below
pub below_two : (P : ℕ → Type 0) → P 0 → P 1 → (k : ℕ) → k < 2 → P k
below_two P a b zero h = a
below_two P a b (suc zero) h = b
below_two P a b (suc (suc k)) h = absurd (omega (arith, h))

pub below_three : (P : ℕ → Type 0) → P 0 → P 1 → P 2 → (k : ℕ) → k < 3 → P k
below_three P a b c zero h = a
below_three P a b c (suc zero) h = b
below_three P a b c (suc (suc zero)) h = c
below_three P a b c (suc (suc (suc k))) h = absurd (omega (arith, h))

pub below_four : (P : ℕ → Type 0) → P 0 → P 1 → P 2 → P 3 → (k : ℕ) → k < 4 → P k
below_four P a b c d zero h = a
below_four P a b c d (suc zero) h = b
below_four P a b c d (suc (suc zero)) h = c
below_four P a b c d (suc (suc (suc zero))) h = d
below_four P a b c d (suc (suc (suc (suc k)))) h = absurd (omega (arith, h))

-- what holds of so many fours
pub by_fours : (P : ℕ → Type 0) (n : ℕ) →
    ((i : ℕ) → i < n → (j : ℕ) → j < 4 → P (4 * i + j)) → (k : ℕ) → k < 4 * n → P k
by_fours P n each k h =
    let whole : 4 * (k / 4) + k % 4 ≡ k = omega arith in
    subst P whole (each (k / 4) (omega (arith, h)) (k % 4) (omega arith))
