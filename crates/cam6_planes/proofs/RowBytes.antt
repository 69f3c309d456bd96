-- A row's bytes: they show the columns that they were made of, and are made of those that they show.
use Rattle.std.proofs.Common.{◌≡◌, ℕ, suc, zero, ◌+◌, ◌-◌, ◌*◌, ◌/◌, ◌%◌, ◌^◌, ◌<◌}
use Rattle.std.proofs.Common.{Bool, true, false}
use Rattle.std.proofs.Common.{List, length, get_or, refl, sym, ◌∙◌}
use Rattle.std.proofs.Common.{ap, arith, nat_eq}
use Rattle.std.specs.Int.{bit_at}
use Rattle.std.proofs.lemmas.List.{get_or_past}
use Rattle.std.proofs.lemmas.Nat.Bits.{bit_at-lt, bit_at_cat_low, bit_at_cat_high}
use Rattle.std.proofs.lemmas.List.FromFn.{fill_by_all}
use Rattle.std.proofs.lemmas.List.FromFn.{length-map-range_with_len, get_or-map-range_with_len}
use native.Mathlib.Decide.{dec_lt}
use Rattle.cam6_planes.specs.Row.{byte_column, bit_number}
use Rattle.cam6_planes.specs.Digits.{four_columns, eight_columns, row_bytes}
use Rattle.cam6_planes.specs.Laws.{BytesShowTheRow, NoOthersShowIt, BytesHaveItsDigits}
use Rattle.cam6_planes.proofs.Bytes.{byte_column-at}
use Rattle.cam6_planes.proofs.HexText.{encode_lower-row}

bit_number-lt : (b : Bool) → bit_number b < 2
bit_number-lt true = omega arith
bit_number-lt false = omega arith

bit_number-one : (b : Bool) → nat_eq (bit_number b) 1 ≡ b
bit_number-one true = refl
bit_number-one false = refl

four_columns-lt : (row : ℕ → Bool) (x : ℕ) → four_columns row x < 2 ^ 4
four_columns-lt row x =
    let first = bit_number-lt (row x) in
    let second = bit_number-lt (row (x + 1)) in
    let third = bit_number-lt (row (x + 2)) in
    let fourth = bit_number-lt (row (x + 3)) in
    omega arith

-- the bits of a number of four, the first of them the highest
record AreBitsOfFour (n a b c d : ℕ) : Type 0 where
  first : bit_at n 3 ≡ a
  second : bit_at n 2 ≡ b
  third : bit_at n 1 ≡ c
  fourth : bit_at n 0 ≡ d

bits_of_four : (a b c d : ℕ) → a < 2 → b < 2 → c < 2 → d < 2 →
    AreBitsOfFour (8 * a + 4 * b + 2 * c + d) a b c d
bits_of_four a b c d h k l m = record {
  first = omega arith;
  second = omega arith;
  third = omega arith;
  fourth = omega arith;
}

-- the bits of such a number are the columns
bit_of_four : (row : ℕ → Bool) (x c : ℕ) → c < 4 →
    bit_at (four_columns row x) (3 - c) ≡ bit_number (row (x + c))
bit_of_four row x c h = by_column c h
  where
    bits : AreBitsOfFour (four_columns row x) (bit_number (row x)) (bit_number (row (x + 1)))
        (bit_number (row (x + 2))) (bit_number (row (x + 3)))
    bits =
        bits_of_four (bit_number (row x)) (bit_number (row (x + 1)))
        (bit_number (row (x + 2))) (bit_number (row (x + 3)))
        (bit_number-lt (row x)) (bit_number-lt (row (x + 1)))
        (bit_number-lt (row (x + 2))) (bit_number-lt (row (x + 3)))

    by_column : (c : ℕ) → c < 4 →
        bit_at (four_columns row x) (3 - c) ≡ bit_number (row (x + c))
    by_column zero h = bits.first ∙ ap (λ k. bit_number (row k)) (omega arith)
    by_column (suc zero) h = bits.second
    by_column (suc (suc zero)) h = bits.third
    by_column (suc (suc (suc zero))) h = bits.fourth
    by_column (suc (suc (suc (suc c)))) h = absurd (omega arith)

bit_of_byte : (row : ℕ → Bool) (x c : ℕ) → c < 8 →
    bit_at (eight_columns row x) (7 - c) ≡ bit_number (row (x + c))
bit_of_byte row x c h =
    let high = four_columns row x in
    let low = four_columns row (x + 4) in
    let here : eight_columns row x ≡ high * 2 ^ 4 + low = omega arith in
    ap (λ n. bit_at n (7 - c)) here ∙
    elim (dec_lt c 4) [
      | Prim.yes lt ↦
          let there : 7 - c - 4 ≡ 3 - c = omega arith in
          bit_at_cat_high high 4 low (7 - c) (four_columns-lt row (x + 4)) (omega arith) ∙
          ap (bit_at high) there ∙ bit_of_four row x c lt
      | Prim.no ge ↦
          let there : 7 - c ≡ 3 - (c - 4) = omega arith in
          let column : x + 4 + (c - 4) ≡ x + c = omega arith in
          bit_at_cat_low high 4 low (7 - c) (omega arith) ∙
          ap (bit_at low) there ∙ bit_of_four row (x + 4) (c - 4) (omega arith) ∙
          ap (λ k. bit_number (row k)) column
    ]

byte-at : (n : ℕ) (row : ℕ → Bool) (i : ℕ) → i < n →
    get_or (row_bytes n row) i 0 ≡ eight_columns row (8 * i)
unfolding row_bytes
byte-at n row i h =
    get_or-map-range_with_len (λ i. eight_columns row (8 * i)) 0 n i i 0 h (omega arith)

pub row_bytes-long : (n : ℕ) (row : ℕ → Bool) → length (row_bytes n row) ≡ n
unfolding row_bytes
row_bytes-long n row = length-map-range_with_len (λ i. eight_columns row (8 * i)) 0 n

pub row_bytes-small : (n : ℕ) (row : ℕ → Bool) (i : ℕ) → get_or (row_bytes n row) i 0 < 256
row_bytes-small n row i =
    elim (dec_lt i n) [
      | Prim.yes lt ↦
          let high = four_columns-lt row (8 * i) in
          let low = four_columns-lt row (8 * i + 4) in
          omega (arith, byte-at n row i lt)
      | Prim.no ge ↦
          omega (arith, get_or_past (row_bytes n row) i 0 (omega (arith, row_bytes-long n row)))
    ]

pub row_bytes-show : (n : ℕ) (row : ℕ → Bool) (x : ℕ) → x < 8 * n → byte_column (row_bytes n row) x ≡ row x
row_bytes-show n row x h =
    let i : ℕ = x / 8 in
    let c : ℕ = x % 8 in
    let here : 8 * i + c ≡ x = omega arith in
    ap (byte_column (row_bytes n row)) (sym here) ∙
    byte_column-at (row_bytes n row) i c (omega arith) ∙
    ap (λ b. nat_eq (bit_at b (7 - c)) 1) (byte-at n row i (omega arith)) ∙
    ap (λ b. nat_eq b 1) (bit_of_byte row (8 * i) c (omega arith)) ∙
    bit_number-one (row (8 * i + c)) ∙ ap row here

bit_number-of : (n : ℕ) → n < 2 → bit_number (nat_eq n 1) ≡ n
bit_number-of zero h = refl
bit_number-of (suc zero) h = refl
bit_number-of (suc (suc n)) h = absurd (omega arith)

-- eight columns that show the bits of a byte are the byte
eight_columns-is : (row : ℕ → Bool) (x n : ℕ) → n < 256 →
    ((c : ℕ) → c < 8 → nat_eq (bit_at n (7 - c)) 1 ≡ row (x + c)) → eight_columns row x ≡ n
eight_columns-is row x n small shows =
    let bit : (c j y : ℕ) → c < 8 → j ≡ 7 - c → y ≡ x + c → bit_number (row y) ≡ bit_at n j =
    λ c j y h k e.
    ap bit_number (ap row e ∙ sym (shows c h) ∙ ap (λ i. nat_eq (bit_at n i) 1) (sym k)) ∙
    bit_number-of (bit_at n j) (bit_at-lt n j) in
    let a = bit 0 7 x (omega arith) refl (omega arith) in
    let b = bit 1 6 (x + 1) (omega arith) refl (omega arith) in
    let c = bit 2 5 (x + 2) (omega arith) refl (omega arith) in
    let d = bit 3 4 (x + 3) (omega arith) refl (omega arith) in
    let e = bit 4 3 (x + 4) (omega arith) refl (omega arith) in
    let f = bit 5 2 (x + 4 + 1) (omega arith) refl (omega arith) in
    let g = bit 6 1 (x + 4 + 2) (omega arith) refl (omega arith) in
    let h = bit 7 0 (x + 4 + 3) (omega arith) refl (omega arith) in
    omega (arith, a, b, c, d, e, f, g, h)

-- bytes that show a row are the row's
pub row_bytes-is : (n : ℕ) (row : ℕ → Bool) (bytes : List ℕ) → length bytes ≡ n →
    ((i : ℕ) → get_or bytes i 0 < 256) →
    ((x : ℕ) → x < 8 * n → byte_column bytes x ≡ row x) → bytes ≡ row_bytes n row
unfolding row_bytes
row_bytes-is n row bytes long small same =
    fill_by_all (λ k. eight_columns row (8 * k)) bytes n 0 long
    (λ k within.
    sym (eight_columns-is row (8 * k) (get_or bytes k 0) (small k)
    (λ c h. sym (byte_column-at bytes k c h) ∙ same (8 * k + c) (omega arith))))

-- rows with the same columns have the same bytes
pub row_bytes-same : (n : ℕ) (row other : ℕ → Bool) → ((x : ℕ) → x < 8 * n → row x ≡ other x) →
    row_bytes n row ≡ row_bytes n other
row_bytes-same n row other h =
    row_bytes-is n other (row_bytes n row) (row_bytes-long n row) (row_bytes-small n row)
    (λ x k. row_bytes-show n row x k ∙ h x k)

pub bytes_show_the_row : BytesShowTheRow
bytes_show_the_row n row = record {
  long = row_bytes-long n row;
  small = row_bytes-small n row;
  columns = row_bytes-show n row;
}

pub no_others_show_it : NoOthersShowIt
no_others_show_it n row bytes shows = row_bytes-is n row bytes shows.long shows.small shows.columns

pub bytes_have_its_digits : BytesHaveItsDigits
bytes_have_its_digits n row =
    let long = row_bytes-long n row in
    encode_lower-row (2 * n) (row_bytes n row) row (omega (arith, long)) (row_bytes-small n row)
    (λ x h. row_bytes-show n row x (omega (arith, h, long)))
