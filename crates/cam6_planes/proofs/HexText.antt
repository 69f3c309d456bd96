-- A row of bytes in hexadecimal digits.
use Rattle.std.proofs.Common.{◌≡◌, ℕ, zero, suc, ◌+◌, ◌-◌, ◌*◌, ◌/◌, ◌%◌, ◌<◌, Bool, List}
use Rattle.std.proofs.Common.{[], ◌∷◌, ◌++◌, take, length, get_or, refl, sym, ◌∙◌, ap, arith}
use Rattle.std.proofs.Common.{nat_eq}
use Rattle.std.specs.Int.{bit_at}
use Rattle.std.proofs.lemmas.Nat.Bits.{bit_at-lt}
use Rattle.std.proofs.lemmas.List.FromFn.{fill_by_all, get_or-map-range_with_len}
use Rattle.std.proofs.lemmas.List.FromFn.{length-map-range_with_len}
use Rattle.std.proofs.Math.Seq.{take-append_seam}
use native.Mathlib.Decide.{dec_lt}
use Rattle.hex.specs.Hex.{encode_with, encode_lower, lower_digits}
use Rattle.hex.proofs.HexLemmas.{length-encode_with}
use Rattle.cam6_planes.specs.Row.{byte_column, bit_number}
use Rattle.cam6_planes.specs.Digits.{four_columns, digit_at, row_text}
use Rattle.cam6_planes.proofs.Bytes.{byte_column-at}

-- the digits of byte i
encode_with-high : (t bytes : List ℕ) (i : ℕ) → i < length bytes →
    get_or (encode_with t bytes) (2 * i) 0 ≡ get_or t (get_or bytes i 0 / 16) 0
unfolding encode_with
encode_with-high t [] i h = absurd (omega arith)
encode_with-high t (b ∷ rest) zero h = refl
encode_with-high t (b ∷ rest) (suc i) h =
    let at : 2 * suc i ≡ suc (suc (2 * i)) = omega arith in
    ap (λ k. get_or (encode_with t (b ∷ rest)) k 0) at ∙ encode_with-high t rest i (omega arith)

encode_with-low : (t bytes : List ℕ) (i : ℕ) → i < length bytes →
    get_or (encode_with t bytes) (2 * i + 1) 0 ≡ get_or t (get_or bytes i 0 % 16) 0
unfolding encode_with
encode_with-low t [] i h = absurd (omega arith)
encode_with-low t (b ∷ rest) zero h = refl
encode_with-low t (b ∷ rest) (suc i) h =
    let at : 2 * suc i + 1 ≡ suc (suc (2 * i + 1)) = omega arith in
    ap (λ k. get_or (encode_with t (b ∷ rest)) k 0) at ∙ encode_with-low t rest i (omega arith)

bit_number-of : (n : ℕ) → n < 2 → bit_number (nat_eq n 1) ≡ n
bit_number-of zero h = refl
bit_number-of (suc zero) h = refl
bit_number-of (suc (suc n)) h = absurd (omega arith)

-- a bit that a column shows, as a number
bit_number-at : (b : Bool) (n i : ℕ) → nat_eq (bit_at n i) 1 ≡ b → bit_number b ≡ bit_at n i
bit_number-at b n i h = ap bit_number (sym h) ∙ bit_number-of (bit_at n i) (bit_at-lt n i)

-- four columns that show the bits of a number below 16
four_columns-is : (row : ℕ → Bool) (x n : ℕ) → n < 16 →
    nat_eq (bit_at n 3) 1 ≡ row x → nat_eq (bit_at n 2) 1 ≡ row (x + 1) →
    nat_eq (bit_at n 1) 1 ≡ row (x + 2) → nat_eq (bit_at n 0) 1 ≡ row (x + 3) →
    four_columns row x ≡ n
four_columns-is row x n small h k l m =
    let e = bit_number-at (row x) n 3 h in
    let f = bit_number-at (row (x + 1)) n 2 k in
    let g = bit_number-at (row (x + 2)) n 1 l in
    let i = bit_number-at (row (x + 3)) n 0 m in
    omega (arith, e, f, g, i)

-- bytes whose columns are those of a row
record Shows (bytes : List ℕ) (row : ℕ → Bool) : Type 0 where
  small : (i : ℕ) → get_or bytes i 0 < 256
  same : (x : ℕ) → x < 8 * length bytes → byte_column bytes x ≡ row x

bit_of_byte : (bytes : List ℕ) (row : ℕ → Bool) → Shows bytes row → (i c x n j : ℕ) →
    i < length bytes → c < 8 → x ≡ 8 * i + c → bit_at n j ≡ bit_at (get_or bytes i 0) (7 - c) →
    nat_eq (bit_at n j) 1 ≡ row x
bit_of_byte bytes row s i c x n j h k e b =
    ap (λ m. nat_eq m 1) b ∙ sym (byte_column-at bytes i c k) ∙ ap (byte_column bytes) (sym e) ∙
    s.same x (omega arith)

digit_at-high : (bytes : List ℕ) (row : ℕ → Bool) → Shows bytes row → (i : ℕ) → i < length bytes →
    digit_at row (2 * i) ≡ get_or lower_digits (get_or bytes i 0 / 16) 0
digit_at-high bytes row s i h =
    let b = get_or bytes i 0 in
    let x = 4 * (2 * i) in
    let small = s.small i in
    let bit : (c j : ℕ) → c < 4 → bit_at (b / 16) j ≡ bit_at b (7 - c) →
    nat_eq (bit_at (b / 16) j) 1 ≡ row (x + c) =
    λ c j k e. bit_of_byte bytes row s i c (x + c) (b / 16) j h (omega arith) (omega arith) e in
    ap (λ n. get_or lower_digits n 0)
    (four_columns-is row x (b / 16) (omega arith)
    (bit_of_byte bytes row s i 0 x (b / 16) 3 h (omega arith) (omega arith) (omega arith))
    (bit 1 2 (omega arith) (omega arith)) (bit 2 1 (omega arith) (omega arith))
    (bit 3 0 (omega arith) (omega arith)))

digit_at-low : (bytes : List ℕ) (row : ℕ → Bool) → Shows bytes row → (i : ℕ) → i < length bytes →
    digit_at row (2 * i + 1) ≡ get_or lower_digits (get_or bytes i 0 % 16) 0
digit_at-low bytes row s i h =
    let b = get_or bytes i 0 in
    let x = 4 * (2 * i + 1) in
    let bit : (c j : ℕ) → c < 4 → bit_at (b % 16) j ≡ bit_at b (7 - (c + 4)) →
    nat_eq (bit_at (b % 16) j) 1 ≡ row (x + c) =
    λ c j k e. bit_of_byte bytes row s i (c + 4) (x + c) (b % 16) j h (omega arith)
    (omega arith) e in
    ap (λ n. get_or lower_digits n 0)
    (four_columns-is row x (b % 16) (omega arith)
    (bit_of_byte bytes row s i 4 x (b % 16) 3 h (omega arith) (omega arith) (omega arith))
    (bit 1 2 (omega arith) (omega arith)) (bit 2 1 (omega arith) (omega arith))
    (bit 3 0 (omega arith) (omega arith)))

-- the hex text of bytes is that of the row that they show
pub encode_lower-row : (n : ℕ) (bytes : List ℕ) (row : ℕ → Bool) → n ≡ 2 * length bytes →
    ((i : ℕ) → get_or bytes i 0 < 256) →
    ((x : ℕ) → x < 8 * length bytes → byte_column bytes x ≡ row x) →
    encode_lower bytes ≡ row_text n row
unfolding row_text
encode_lower-row n bytes row e small same =
    let s : Shows bytes row = record { small = small; same = same } in
    let long = length-encode_with lower_digits bytes in
    fill_by_all (digit_at row) (encode_lower bytes) n 0 (long ∙ sym e)
    (λ k h.
    let i : ℕ = k / 2 in
    elim (dec_lt (k % 2) 1) [
      | Prim.yes lt ↦
          let here : k ≡ 2 * i = omega arith in
          ap (λ j. get_or (encode_lower bytes) j 0) here ∙
          encode_with-high lower_digits bytes i (omega arith) ∙
          sym (ap (digit_at row) here ∙ digit_at-high bytes row s i (omega arith))
      | Prim.no ge ↦
          let here : k ≡ 2 * i + 1 = omega arith in
          ap (λ j. get_or (encode_lower bytes) j 0) here ∙
          encode_with-low lower_digits bytes i (omega arith) ∙
          sym (ap (digit_at row) here ∙ digit_at-low bytes row s i (omega arith))
    ])

digit_at-same : (row other : ℕ → Bool) (k : ℕ) → row (4 * k) ≡ other (4 * k) →
    row (4 * k + 1) ≡ other (4 * k + 1) → row (4 * k + 2) ≡ other (4 * k + 2) →
    row (4 * k + 3) ≡ other (4 * k + 3) →
    digit_at row k ≡ digit_at other k
digit_at-same row other k e f g h = rw (e, f, g, h) refl

-- rows with the same columns have the same text
pub row_text-same : (n : ℕ) (row other : ℕ → Bool) → ((x : ℕ) → x < 4 * n → row x ≡ other x) →
    row_text n row ≡ row_text n other
unfolding row_text
row_text-same n row other h =
    fill_by_all (digit_at other) (row_text n row) n 0 (length-map-range_with_len (digit_at row) 0 n)
    (λ k l.
    get_or-map-range_with_len (digit_at row) 0 n k k 0 l (omega arith) ∙
    digit_at-same row other k (h (4 * k) (omega arith)) (h (4 * k + 1) (omega arith))
    (h (4 * k + 2) (omega arith)) (h (4 * k + 3) (omega arith)))

-- a text at the front of room for more
pub take_front : (n : ℕ) (text rest : List ℕ) → length text ≡ n → take n (text ++ rest) ≡ text
take_front n text rest h = ap (λ k. take k (text ++ rest)) (sym h) ∙ take-append_seam text rest
