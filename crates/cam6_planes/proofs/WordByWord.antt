-- A row of words, filled word by word.
use Rattle.std.proofs.Common.{◌≡◌, ◌≢◌, ℕ, zero, suc, ◌+◌, ◌-◌, ◌*◌, ◌/◌, ◌%◌}
use Rattle.std.proofs.Common.{◌<◌, ◌≤◌, Bool, List, length, get_or, set, refl, sym}
use Rattle.std.proofs.Common.{◌∙◌, ap, arith, get_or-set_other, get_or-set_same}
use Rattle.std.proofs.Math.Nat.{mod-eq_of_lt, add-mod_right, mod_self}
use native.Mathlib.Decide.{dec_lt}
use Rattle.cam6_planes.specs.Row.{word_column, column_bit, west_of, east_of}

-- a column by its word and its place there
pub column_bit-at : (row : List ℕ) (i c : ℕ) → c < 64 →
    column_bit row (64 * i + c) ≡ word_column (get_or row i 0) c
unfolding column_bit
column_bit-at row i c h =
    let q : (64 * i + c) / 64 ≡ i = omega arith in
    let r : (64 * i + c) % 64 ≡ c = omega arith in
    rw (q, r) refl

pub column_bit-set_other : (row : List ℕ) (i r x : ℕ) → x < 64 * i →
    column_bit (set row i r) x ≡ column_bit row x
unfolding column_bit
column_bit-set_other row i r x h =
    let ne : x / 64 ≢ i = omega arith in
    ap (λ w. word_column w (x % 64)) (get_or-set_other row i (x / 64) r 0 ne)

pub column_bit-set_past : (row : List ℕ) (i r x : ℕ) → 64 * (i + 1) ≤ x →
    column_bit (set row i r) x ≡ column_bit row x
unfolding column_bit
column_bit-set_past row i r x h =
    let ne : x / 64 ≢ i = omega arith in
    ap (λ w. word_column w (x % 64)) (get_or-set_other row i (x / 64) r 0 ne)

pub column_bit-set_same : (row : List ℕ) (i r c : ℕ) → i < length row → c < 64 →
    column_bit (set row i r) (64 * i + c) ≡ word_column r c
column_bit-set_same row i r c h k = column_bit-at (set row i r) i c k ∙
    ap (λ w. word_column w c) (get_or-set_same row i r 0 h)

-- one more word, where g says the bit at each column
pub row_more : (g : ℕ → Bool) (out : List ℕ) (i r : ℕ) → i < length out →
    ((x : ℕ) → x < 64 * i → column_bit out x ≡ g x) →
    ((c : ℕ) → c < 64 → word_column r c ≡ g (64 * i + c)) →
    (x : ℕ) → x < 64 * (i + 1) → column_bit (set out i r) x ≡ g x
row_more g out i r h below here x k =
    elim (dec_lt x (64 * i)) [
      | Prim.yes lt ↦ column_bit-set_other out i r x lt ∙ below x lt
      | Prim.no ge ↦
          let e : 64 * i + (x - 64 * i) ≡ x = omega arith in
          let c : x - 64 * i < 64 = omega arith in
          ap (column_bit (set out i r)) (sym e) ∙ column_bit-set_same out i r (x - 64 * i) h c ∙
          here (x - 64 * i) c ∙ ap g e
    ]

pub west_of-zero : (s : ℕ) → 0 < s → west_of s 0 ≡ s - 1
west_of-zero s h = let lt : 0 + (s - 1) < s = omega arith in mod-eq_of_lt lt ∙ omega arith

pub west_of-suc : (s x : ℕ) → x < s → west_of s (x + 1) ≡ x
west_of-suc s x h =
    let e : x + 1 + (s - 1) ≡ x + s = omega arith in
    ap (λ n. n % s) e ∙ add-mod_right x s ∙ mod-eq_of_lt h

pub east_of-last : (s x : ℕ) → x + 1 ≡ s → east_of s x ≡ 0
east_of-last s x h = ap (λ n. n % s) h ∙ mod_self s

pub east_of-lt : (s x : ℕ) → x + 1 < s → east_of s x ≡ x + 1
east_of-lt s x h = mod-eq_of_lt h

-- the word that `moved_east` makes has the columns to the west
pub west_here : (row : List ℕ) (count i before r : ℕ) → i < count →
    west_of (64 * count) (64 * i) ≡ 64 * before + 63 →
    word_column r 0 ≡ word_column (get_or row before 0) 63 →
    ((c : ℕ) → c < 63 → word_column r (c + 1) ≡ word_column (get_or row i 0) c) →
    (c : ℕ) → c < 64 → word_column r c ≡ column_bit row (west_of (64 * count) (64 * i + c))
west_here row count i before r h e first others zero k =
    first ∙ sym (column_bit-at row before 63 (omega arith)) ∙
    ap (column_bit row) (sym e ∙ ap (west_of (64 * count)) (omega arith))
west_here row count i before r h e first others (suc c) k =
    let lt : c < 63 = omega arith in
    let n : c + 1 ≡ suc c = omega arith in
    let m : 64 * i + c + 1 ≡ 64 * i + suc c = omega arith in
    ap (word_column r) (sym n) ∙ others c lt ∙ sym (column_bit-at row i c (omega arith)) ∙
    ap (column_bit row) (sym (west_of-suc (64 * count) (64 * i + c) (omega arith)) ∙
    ap (west_of (64 * count)) m)

-- the word that `moved_west` makes has the columns to the east
pub east_here : (row : List ℕ) (count i after r : ℕ) → i < count →
    east_of (64 * count) (64 * i + 63) ≡ 64 * after →
    word_column r 63 ≡ word_column (get_or row after 0) 0 →
    ((c : ℕ) → c < 63 → word_column r c ≡ word_column (get_or row i 0) (c + 1)) →
    (c : ℕ) → c < 64 → word_column r c ≡ column_bit row (east_of (64 * count) (64 * i + c))
east_here row count i after r h e last others c k =
    elim (dec_lt c 63) [
      | Prim.yes lt ↦
          let m : 64 * i + (c + 1) ≡ 64 * i + c + 1 = omega arith in
          others c lt ∙ sym (column_bit-at row i (c + 1) (omega arith)) ∙
          ap (column_bit row) (m ∙ sym (east_of-lt (64 * count) (64 * i + c) (omega arith)))
      | Prim.no ge ↦
          let z : c ≡ 63 = omega arith in
          let m : 64 * after + 0 ≡ 64 * after = omega arith in
          ap (word_column r) z ∙ last ∙ sym (column_bit-at row after 0 (omega arith)) ∙
          ap (column_bit row) (m ∙ sym e ∙ ap (λ n. east_of (64 * count) (64 * i + n)) (sym z))
    ]
