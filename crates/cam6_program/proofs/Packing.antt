-- Words that take in one bit after another.
use Rattle.std.proofs.Common.{◌≡◌, ℕ, suc, ◌+◌, ◌-◌, ◌*◌, ◌/◌, ◌%◌, ◌^◌, ◌<◌}
use Rattle.std.proofs.Common.{nat_eq, sym, ◌∙◌, ap, arith, bit_and, bit_or, get_or, Bool, List}
use Rattle.std.specs.Int.{bit_at}
use Rattle.std.proofs.Math.Nat.{div-one}
use native.Mathlib.Decide.{dec_lt}
use Rattle.std.proofs.lemmas.Nat.Bits.{bit_at_or, bit_at_lowest, bit_at-lt, shr_and_one}
use Rattle.cam6_planes.specs.Row.{word_column, column_bit}
use Rattle.cam6_planes.proofs.WordByWord.{column_bit-at}
use Rattle.cam6_planes.proofs.Words.{shl_in_high}

-- a bit alone is a number below two
lowest : (entry bit : ℕ) → bit ≡ bit_and entry 1 → bit ≡ bit_at entry 0
lowest entry bit is =
    is ∙ ap (λ n. bit_and n 1) (sym (div-one entry)) ∙ shr_and_one entry 0

pub last_taken : (word entry bit : ℕ) → bit ≡ bit_and entry 1 →
    word_column (bit_or (word * 2 % 2 ^ 64) bit) 63 ≡ nat_eq (bit_at entry 0) 1
unfolding word_column
last_taken word entry bit is =
    let moved : bit_at (word * 2 % 2 ^ 64) 0 ≡ 0 = omega arith in
    let same : bit ≡ bit_at entry 0 = lowest entry bit is in
    let own : bit_at bit 0 ≡ bit = omega (arith, same, bit_at-lt entry 0, bit_at_lowest bit) in
    ap (λ n. nat_eq n 1)
    (bit_at_or (word * 2 % 2 ^ 64) bit 0 ∙ rw (moved, own) (omega (arith, same)))

pub others_moved : (word entry bit c : ℕ) → bit ≡ bit_and entry 1 → c < 63 →
    word_column (bit_or (word * 2 % 2 ^ 64) bit) c ≡ word_column word (c + 1)
unfolding word_column
others_moved word entry bit c is h =
    let same : bit ≡ bit_at entry 0 = lowest entry bit is in
    let small : bit < 2 = omega (arith, same, bit_at-lt entry 0) in
    let raised : bit * 2 ^ 63 / 2 ^ 63 ≡ bit = omega arith in
    let place : suc (63 - (c + 1)) ≡ 63 - c = omega arith in
    ap (λ n. nat_eq n 1)
    (ap (λ b. bit_at (bit_or (word * 2 % 2 ^ 64) b) (63 - c)) (sym raised) ∙
    ap (bit_at (bit_or (word * 2 % 2 ^ 64) (bit * 2 ^ 63 / 2 ^ 63))) (sym place) ∙
    shl_in_high word (bit * 2 ^ 63) (63 - (c + 1)) (omega (arith, small)) (omega (arith, h)))

-- where the next word of a unit is as it should be too, g says the bit at each column so far
pub one_more_word : (g : ℕ → Bool) (unit : List ℕ) (k word : ℕ) → get_or unit k 0 ≡ word →
    ((x : ℕ) → x < 64 * k → column_bit unit x ≡ g x) →
    ((c : ℕ) → c < 64 → word_column word c ≡ g (64 * k + c)) →
    (x : ℕ) → x < 64 * (k + 1) → column_bit unit x ≡ g x
one_more_word g unit k word same below here x h =
    elim (dec_lt x (64 * k)) [
      | Prim.yes lt ↦ below x lt
      | Prim.no ge ↦
          let place : 64 * k + (x - 64 * k) ≡ x = omega arith in
          let within : x - 64 * k < 64 = omega arith in
          ap (column_bit unit) (sym place) ∙ column_bit-at unit k (x - 64 * k) within ∙
          ap (λ w. word_column w (x - 64 * k)) same ∙ here (x - 64 * k) within ∙ ap g place
    ]
