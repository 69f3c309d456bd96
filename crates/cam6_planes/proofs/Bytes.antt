-- The bytes of a word, of which the first is the highest.
use Rattle.std.proofs.Common.{◌≡◌, ◌≢◌, ℕ, zero, suc, ◌+◌, ◌-◌, ◌*◌, ◌/◌, ◌%◌, ◌^◌}
use Rattle.std.proofs.Common.{◌<◌, Bool, List, [], ◌∷◌, take, length, get_or, set, refl, sym, ◌∙◌}
use Rattle.std.proofs.Common.{ap}
use Rattle.std.proofs.Common.{arith, bit_or, nat_eq, get_or-set_other, get_or-set_same}
use Rattle.std.specs.Int.{bit_at, byte_at, bytes_high_first, w64, to_be_bytes}
use Rattle.std.proofs.lemmas.List.{get_or-take}
use Rattle.std.proofs.lemmas.Nat.Bits.{bit_at_or, bit_at-zero, bit_at_above}
use Rattle.std.proofs.lemmas.Nat.Bits.{bit_at_cat_low, bit_at_cat_high}
use Rattle.std.proofs.lemmas.Nat.{div-add-mod', pow-add, pow_pos}
use Rattle.std.proofs.Math.Nat.{mod-lt, div-one, pow-succ'}
use native.Mathlib.Decide.{dec_lt}
use Rattle.cam6_planes.specs.Row.{word_column, byte_column}

-- `w << 8 | b`
pub low_of_joined : (w b i : ℕ) → i < 8 → bit_at (bit_or (w * 2 ^ 8 % 2 ^ 64) b) i ≡ bit_at b i
low_of_joined w b i h =
    let e : w * 2 ^ 8 % 2 ^ 64 ≡ (w % 2 ^ 56) * 2 ^ 8 + 0 = omega arith in
    let none : bit_at (w * 2 ^ 8 % 2 ^ 64) i ≡ 0 = ap (λ n. bit_at n i) e ∙
    bit_at_cat_low (w % 2 ^ 56) 8 0 i h ∙ bit_at-zero i in
    bit_at_or (w * 2 ^ 8 % 2 ^ 64) b i ∙ rw none (omega arith)

pub high_of_joined : (w b i : ℕ) → b < 2 ^ 8 → i < 56 →
    bit_at (bit_or (w * 2 ^ 8 % 2 ^ 64) b) (i + 8) ≡ bit_at w i
high_of_joined w b i small h =
    let e : w * 2 ^ 8 % 2 ^ 64 ≡ (w % 2 ^ 56) * 2 ^ 8 + 0 = omega arith in
    let whole : w ≡ w / 2 ^ 56 * 2 ^ 56 + w % 2 ^ 56 = omega arith in
    let back : i + 8 - 8 ≡ i = omega arith in
    let none : bit_at b (i + 8) ≡ 0 = bit_at_above b 8 (i + 8) small (omega arith) in
    let kept : bit_at (w * 2 ^ 8 % 2 ^ 64) (i + 8) ≡ bit_at w i =
    ap (λ n. bit_at n (i + 8)) e ∙
    bit_at_cat_high (w % 2 ^ 56) 8 0 (i + 8) (omega arith) (omega arith) ∙
    ap (bit_at (w % 2 ^ 56)) back ∙
    sym (bit_at_cat_low (w / 2 ^ 56) 56 (w % 2 ^ 56) i h) ∙ ap (λ n. bit_at n i) (sym whole) in
    bit_at_or (w * 2 ^ 8 % 2 ^ 64) b (i + 8) ∙ rw (none, kept) (omega arith)

-- a column by its byte and its place there
pub byte_column-at : (bytes : List ℕ) (i c : ℕ) → c < 8 →
    byte_column bytes (8 * i + c) ≡ nat_eq (bit_at (get_or bytes i 0) (7 - c)) 1
unfolding byte_column
byte_column-at bytes i c h =
    let q : (8 * i + c) / 8 ≡ i = omega arith in
    let r : (8 * i + c) % 8 ≡ c = omega arith in
    rw (q, r) refl

-- a word that takes one more byte after those that it has
pub word_more : (bytes : List ℕ) (i k w : ℕ) → k < 8 → get_or bytes (8 * i + k) 0 < 2 ^ 8 →
    ((c : ℕ) → c < 8 * k → word_column w (64 - 8 * k + c) ≡ byte_column bytes (64 * i + c)) →
    (c : ℕ) → c < 8 * (k + 1) →
    word_column (bit_or (w * 2 ^ 8 % 2 ^ 64) (get_or bytes (8 * i + k) 0)) (64 - 8 * (k + 1) + c)
    ≡ byte_column bytes (64 * i + c)
unfolding word_column
word_more bytes i k w h small below c l =
    let b = get_or bytes (8 * i + k) 0 in
    let new = bit_or (w * 2 ^ 8 % 2 ^ 64) b in
    elim (dec_lt c (8 * k)) [
      | Prim.yes lt ↦
          let at : 63 - (64 - 8 * (k + 1) + c) ≡ 8 * k - 1 - c + 8 = omega arith in
          let was : 8 * k - 1 - c ≡ 63 - (64 - 8 * k + c) = omega arith in
          ap (λ n. nat_eq (bit_at new n) 1) at ∙
          ap (λ n. nat_eq n 1)
          (high_of_joined w b (8 * k - 1 - c) small (omega arith) ∙ ap (bit_at w) was) ∙
          below c lt
      | Prim.no ge ↦
          let at : 63 - (64 - 8 * (k + 1) + c) ≡ 7 - (c - 8 * k) = omega arith in
          let here : 8 * (8 * i + k) + (c - 8 * k) ≡ 64 * i + c = omega arith in
          ap (λ n. nat_eq (bit_at new n) 1) at ∙
          ap (λ n. nat_eq n 1) (low_of_joined w b (7 - (c - 8 * k)) (omega arith)) ∙
          sym (byte_column-at bytes (8 * i + k) (c - 8 * k) (omega arith)) ∙
          ap (byte_column bytes) here
    ]

-- the bytes in front show the columns that they have
pub byte_column-take : (n : ℕ) (bytes : List ℕ) (x : ℕ) → x < 8 * n →
    byte_column (take n bytes) x ≡ byte_column bytes x
unfolding byte_column
byte_column-take n bytes x h =
    ap (λ b. nat_eq (bit_at b (7 - x % 8)) 1) (get_or-take n bytes (x / 8) 0 (omega arith))

pub small-take : (n : ℕ) (bytes : List ℕ) → ((i : ℕ) → get_or bytes i 0 < 256) → (i : ℕ) →
    get_or (take n bytes) i 0 < 256
small-take zero bytes h i = omega arith
small-take (suc n) [] h i = omega arith
small-take (suc n) (b ∷ rest) h zero = h zero
small-take (suc n) (b ∷ rest) h (suc i) = small-take n rest (λ j. h (suc j)) i

byte_column-set_other : (bytes : List ℕ) (i b x : ℕ) → x < 8 * i →
    byte_column (set bytes i b) x ≡ byte_column bytes x
unfolding byte_column
byte_column-set_other bytes i b x h =
    let ne : x / 8 ≢ i = omega arith in
    ap (λ n. nat_eq (bit_at n (7 - x % 8)) 1) (get_or-set_other bytes i (x / 8) b 0 ne)

byte_column-set_same : (bytes : List ℕ) (i b c : ℕ) → i < length bytes → c < 8 →
    byte_column (set bytes i b) (8 * i + c) ≡ nat_eq (bit_at b (7 - c)) 1
byte_column-set_same bytes i b c h k =
    byte_column-at (set bytes i b) i c k ∙
    ap (λ n. nat_eq (bit_at n (7 - c)) 1) (get_or-set_same bytes i b 0 h)

-- one more byte, where g says the bit at each column
pub bytes_more : (g : ℕ → Bool) (out : List ℕ) (i b : ℕ) → i < length out →
    ((x : ℕ) → x < 8 * i → byte_column out x ≡ g x) →
    ((c : ℕ) → c < 8 → nat_eq (bit_at b (7 - c)) 1 ≡ g (8 * i + c)) →
    (x : ℕ) → x < 8 * (i + 1) → byte_column (set out i b) x ≡ g x
bytes_more g out i b h below here x k =
    elim (dec_lt x (8 * i)) [
      | Prim.yes lt ↦ byte_column-set_other out i b x lt ∙ below x lt
      | Prim.no ge ↦
          let e : 8 * i + (x - 8 * i) ≡ x = omega arith in
          let c : x - 8 * i < 8 = omega arith in
          ap (byte_column (set out i b)) (sym e) ∙ byte_column-set_same out i b (x - 8 * i) h c ∙
          here (x - 8 * i) c ∙ ap g e
    ]

-- a bit of eight bits taken out of a number
bit_at-byte : (n s i : ℕ) → i < 8 → bit_at (n / 2 ^ s % 2 ^ 8) i ≡ bit_at n (s + i)
bit_at-byte n s i h =
    let m : ℕ = n / 2 ^ s in
    let back : s + i - s ≡ i = omega arith in
    sym (bit_at_cat_low (m / 2 ^ 8) 8 (m % 2 ^ 8) i h) ∙
    ap (λ k. bit_at k i) (div-add-mod' m (2 ^ 8)) ∙
    ap (bit_at m) (sym back) ∙
    sym (bit_at_cat_high m s (n % 2 ^ s) (s + i) (mod-lt n (pow_pos s)) (omega arith)) ∙
    ap (λ k. bit_at k (s + i)) (div-add-mod' n (2 ^ s))

pow_256 : (i : ℕ) → 256 ^ i ≡ 2 ^ (8 * i)
pow_256 zero = refl
pow_256 (suc i) =
    let e : 8 * suc i ≡ 8 + 8 * i = omega arith in
    pow-succ' 256 i ∙ ap (λ m. 256 * m) (pow_256 i) ∙ sym (ap (λ k. 2 ^ k) e ∙ pow-add 2 8 (8 * i))

byte_at-shifted : (i n : ℕ) → byte_at i n ≡ n / 2 ^ (8 * i) % 2 ^ 8
byte_at-shifted zero n = ap (λ m. m % 2 ^ 8) (sym (div-one n))
byte_at-shifted (suc i) n = ap (λ p. n / p % 256) (pow_256 (suc i))

bytes_high_first-at : (m n k : ℕ) → k < m →
    get_or (bytes_high_first m n) k 0 ≡ byte_at (m - 1 - k) n
bytes_high_first-at zero n k h = absurd (omega arith)
bytes_high_first-at (suc m) n zero h = ap (λ i. byte_at i n) (omega arith)
bytes_high_first-at (suc m) n (suc k) h = bytes_high_first-at m n k (omega arith) ∙
    ap (λ i. byte_at i n) (omega arith)

-- the columns of a word that are in its byte k
pub byte_of_word-at : (w k c : ℕ) → k < 8 → c < 8 →
    nat_eq (bit_at (get_or (to_be_bytes w64 w) k 0) (7 - c)) 1 ≡ word_column w (8 * k + c)
unfolding word_column
byte_of_word-at w k c h l =
    let at : 8 * (8 - 1 - k) + (7 - c) ≡ 63 - (8 * k + c) = omega arith in
    ap (λ b. nat_eq (bit_at b (7 - c)) 1)
    (bytes_high_first-at 8 w k h ∙ byte_at-shifted (8 - 1 - k) w) ∙
    ap (λ n. nat_eq n 1) (bit_at-byte w (8 * (8 - 1 - k)) (7 - c) (omega arith) ∙ ap (bit_at w) at)
