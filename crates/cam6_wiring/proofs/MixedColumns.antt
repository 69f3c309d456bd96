-- Words and rows that are the same in each word, or mixed by their columns.
use Rattle.std.proofs.Common.{◌≡◌, ℕ, ◌+◌, ◌-◌, ◌*◌, ◌/◌, ◌%◌, ◌<◌, ◌≤◌, Bool, true, List, get_or}
use Rattle.std.proofs.Common.{replicate, nat_eq, ◌==◌, if◌then◌else◌, refl, sym, ◌∙◌, ap, arith}
use Rattle.std.proofs.Common.{bit_and, bit_or}
use Rattle.std.specs.Int.{bit_at}
use Rattle.std.proofs.lemmas.Bool.{eqb-true}
use Rattle.std.proofs.lemmas.List.{get_or-replicate}
use Rattle.std.proofs.lemmas.Nat.Bits.{bit_at_or, bit_at_and, bit_at-lt, bit_at_ones}
use native.Mathlib.Decide.{dec_lt}
use Rattle.cam6_planes.specs.Row.{word_column, column_bit}
use Rattle.cam6_planes.proofs.AllBelow.{at_each}
use Rattle.cam6_planes.proofs.WordByWord.{column_bit-at}

-- rows of the same words

pub column_of_words : (n w x : ℕ) → x < 64 * n →
    column_bit (replicate n w) x ≡ word_column w (x % 64)
unfolding column_bit
column_of_words n w x h =
    ap (λ v. word_column v (x % 64)) (get_or-replicate n (x / 64) w 0 (omega (arith, h)))

pub column_of_ones : (n x : ℕ) → x < 64 * n → column_bit (replicate n 0xffffffffffffffff) x ≡ true
unfolding word_column
column_of_ones n x h =
    column_of_words n 0xffffffffffffffff x h ∙
    ap (λ b. nat_eq b 1) (bit_at_ones 64 (63 - x % 64) (omega arith))

odd_mask : (c : ℕ) → c < 64 → bit_at 0x5555555555555555 (63 - c) ≡ c % 2
odd_mask c h =
    eqb-true _ _ (at_each (λ c. nat_eq (bit_at 0x5555555555555555 (63 - c)) (c % 2)) 64 c h refl)

even_mask : (c : ℕ) → c < 64 → bit_at 0xaaaaaaaaaaaaaaaa (63 - c) ≡ (c + 1) % 2
even_mask c h =
    eqb-true _ _
    (at_each (λ c. nat_eq (bit_at 0xaaaaaaaaaaaaaaaa (63 - c)) ((c + 1) % 2)) 64 c h refl)

pub odd_columns : (n x : ℕ) → x < 64 * n →
    column_bit (replicate n 0x5555555555555555) x ≡ ((x + 0) % 2 == 1)
unfolding word_column
odd_columns n x h =
    let same : x % 64 % 2 ≡ (x + 0) % 2 = omega arith in
    column_of_words n 0x5555555555555555 x h ∙
    ap (λ b. nat_eq b 1) (odd_mask (x % 64) (omega arith) ∙ same)

pub even_columns : (n x : ℕ) → x < 64 * n →
    column_bit (replicate n 0xaaaaaaaaaaaaaaaa) x ≡ ((x + 1) % 2 == 1)
unfolding word_column
even_columns n x h =
    let same : (x % 64 + 1) % 2 ≡ (x + 1) % 2 = omega arith in
    column_of_words n 0xaaaaaaaaaaaaaaaa x h ∙
    ap (λ b. nat_eq b 1) (even_mask (x % 64) (omega arith) ∙ same)

-- rows that are mixed

-- the first word where its mask has the place, and the second where the other mask has it
first_masked : (a b m n p : ℕ) → bit_at m p ≡ 1 → bit_at n p ≡ 0 →
    bit_at (bit_or (bit_and a m) (bit_and b n)) p ≡ bit_at a p
first_masked a b m n p one none =
    bit_at_or (bit_and a m) (bit_and b n) p ∙
    rw (bit_at_and, one, bit_at_and, none) (omega (arith, bit_at-lt a p))

second_masked : (a b m n p : ℕ) → bit_at m p ≡ 0 → bit_at n p ≡ 1 →
    bit_at (bit_or (bit_and a m) (bit_and b n)) p ≡ bit_at b p
second_masked a b m n p none one =
    bit_at_or (bit_and a m) (bit_and b n) p ∙
    rw (bit_at_and, none, bit_at_and, one) (omega (arith, bit_at-lt b p))

pub mixed_column : (even odd c : ℕ) → c < 64 →
    word_column (bit_or (bit_and even 0xaaaaaaaaaaaaaaaa) (bit_and odd 0x5555555555555555)) c
    ≡ (if c % 2 == 1 then word_column odd c else word_column even c)
unfolding word_column
mixed_column even odd c h =
    elim (dec_lt (c % 2) 1) [
      | Prim.yes lt ↦
          let e : c % 2 ≡ 0 = omega arith in
          ap (λ b. b == 1) (first_masked even odd 0xaaaaaaaaaaaaaaaa 0x5555555555555555 (63 - c)
          (even_mask c h ∙ omega arith) (odd_mask c h ∙ e)) ∙
          sym (ap (λ n. if n == 1 then word_column odd c else word_column even c) e)
      | Prim.no ge ↦
          let e : c % 2 ≡ 1 = omega arith in
          ap (λ b. b == 1) (second_masked even odd 0xaaaaaaaaaaaaaaaa 0x5555555555555555 (63 - c)
          (even_mask c h ∙ omega arith) (odd_mask c h ∙ e)) ∙
          sym (ap (λ n. if n == 1 then word_column odd c else word_column even c) e)
    ]

-- the odd columns of one row, and the even ones of another
abbrev pub mixed : List ℕ → List ℕ → ℕ → Bool
mixed odd even x = if x % 2 == 1 then column_bit odd x else column_bit even x

-- the word that is mixed has its columns, where the rest of the row is still the old one
pub mixed_here : (odd row old : List ℕ) (i word : ℕ) →
    ((x : ℕ) → 64 * i ≤ x → column_bit row x ≡ column_bit old x) →
    ((c : ℕ) → c < 64 → word_column word c
    ≡ (if c % 2 == 1 then word_column (get_or odd i 0) c else word_column (get_or row i 0) c)) →
    (c : ℕ) → c < 64 → word_column word c ≡ mixed odd old (64 * i + c)
mixed_here odd row old i word rest made c h =
    let same : c % 2 ≡ (64 * i + c) % 2 = omega arith in
    made c h ∙
    ap (λ b. if c % 2 == 1 then b else word_column (get_or row i 0) c)
    (sym (column_bit-at odd i c h)) ∙
    ap (λ b. if c % 2 == 1 then column_bit odd (64 * i + c) else b)
    (sym (column_bit-at row i c h) ∙ rest (64 * i + c) (omega arith)) ∙
    ap (λ n. if n == 1 then column_bit odd (64 * i + c) else column_bit old (64 * i + c)) same
