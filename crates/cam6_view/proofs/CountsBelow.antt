-- How many of the numbers below a bound have a property, by parts, and the bits of a word.
use Rattle.std.proofs.Common.{◌≡◌, ℕ, zero, suc, ◌+◌, ◌-◌, ◌*◌, ◌^◌, ◌/◌, ◌%◌, ◌<◌, ◌≤◌, Bool}
use Rattle.std.proofs.Common.{true, false, refl, sym, ◌∙◌, ap, arith, count_ones, ◌==◌}
use Rattle.std.specs.Int.{bit_at}
use lib.Count.{ones_cat, ones, ones_in}
use Rattle.std.proofs.lemmas.Nat.Bits.{bit_at-suc, bit_at_lowest}
use Rattle.std.proofs.Math.Nat.{pow-suc}
use Rattle.cam6_planes.specs.Row.{bit_number, word_column}
use Rattle.cam6_view.specs.States.{count_below, sum_below}

pub bit_number-le : (b : Bool) → bit_number b ≤ 1
bit_number-le true = omega arith
bit_number-le false = omega arith

pub bit_is : (n : ℕ) → n < 2 → n ≡ bit_number (n == 1)
bit_is zero h = refl
bit_is (suc zero) h = refl
bit_is (suc (suc n)) h = absurd (omega arith)

-- the same numbers have both properties
pub count_below-same : (p q : ℕ → Bool) (n : ℕ) → ((i : ℕ) → i < n → p i ≡ q i) →
    count_below p n ≡ count_below q n
unfolding count_below
count_below-same p q zero e = refl
count_below-same p q (suc n) e =
    let below = count_below-same p q n (λ i h. e i (omega arith)) in
    ap (λ k. k + bit_number (p n)) below ∙
    ap (λ b. count_below q n + bit_number b) (e n (omega arith))

-- those below a, and those from a on
pub count_below-split : (p : ℕ → Bool) (a b n : ℕ) → n ≡ a + b →
    count_below p n ≡ count_below p a + count_below (λ i. p (a + i)) b
unfolding count_below
count_below-split p a zero n e =
    let q : n ≡ a = omega arith in ap (count_below p) q ∙ omega arith
count_below-split p a (suc b) zero e = absurd (omega arith)
count_below-split p a (suc b) (suc n) e =
    let q : n ≡ a + b = omega arith in
    let front = count_below p a + count_below (λ i. p (a + i)) b in
    ap (λ k. k + bit_number (p n)) (count_below-split p a b n q) ∙
    ap (λ k. front + bit_number (p k)) q ∙ omega arith

pub count_below-none : (p : ℕ → Bool) (n : ℕ) → n ≡ 0 → 0 ≡ count_below p n
unfolding count_below
count_below-none p zero e = refl
count_below-none p (suc n) e = absurd (omega arith)

pub sum_below-none : (f : ℕ → ℕ) → 0 ≡ sum_below f 0
unfolding sum_below
sum_below-none f = refl

pub sum_below-more : (f : ℕ → ℕ) (n : ℕ) → sum_below f (n + 1) ≡ sum_below f n + f n
unfolding sum_below
sum_below-more f n = let e : n + 1 ≡ suc n = omega arith in ap (sum_below f) e

ones_lowest : (n : ℕ) → n < 2 → count_ones n ≡ n
unfolding ones ones_in
ones_lowest zero h = refl
ones_lowest (suc zero) h = refl
ones_lowest (suc (suc n)) h = absurd (omega arith)

-- the bits of a word, the highest first
ones_are : (k w : ℕ) → w < 2 ^ k → count_ones w ≡ count_below (λ i. bit_at w (k - 1 - i) == 1) k
unfolding count_below
ones_are zero w h = ones_lowest w (omega arith) ∙ omega arith
ones_are (suc k) w h =
    let low : w % 2 < 2 = omega arith in
    let half : w / 2 < 2 ^ k = omega (arith, pow-suc 2 k) in
    let cut : w ≡ w / 2 * 2 ^ 1 + w % 2 = omega arith in
    let above : (i : ℕ) → i < k → bit_at (w / 2) (k - 1 - i) ≡ bit_at w (suc k - 1 - i) =
    λ i l.
    let e : suc k - 1 - i ≡ suc (k - 1 - i) = omega arith in
    sym (ap (bit_at w) e ∙ bit_at-suc w (k - 1 - i)) in
    let last : w % 2 ≡ bit_at w (suc k - 1 - k) =
    let e : suc k - 1 - k ≡ 0 = omega arith in sym (ap (bit_at w) e ∙ bit_at_lowest w) in
    ap count_ones cut ∙ ones_cat 1 (w / 2) (w % 2) low ∙
    ap (λ n. n + count_ones (w % 2)) (ones_are k (w / 2) half ∙
    count_below-same (λ i. bit_at (w / 2) (k - 1 - i) == 1) (λ i. bit_at w (suc k - 1 - i) == 1) k
    (λ i l. ap (λ n. n == 1) (above i l))) ∙
    ap (λ n. count_below (λ i. bit_at w (suc k - 1 - i) == 1) k + n)
    (ones_lowest (w % 2) low ∙ bit_is (w % 2) low ∙ ap (λ n. bit_number (n == 1)) last)

pub ones_in_columns : (w : ℕ) → w < 2 ^ 64 → count_ones w ≡ count_below (word_column w) 64
unfolding word_column
ones_in_columns w h = ones_are 64 w h

-- a word more of a row
pub one_word : (p q : ℕ → Bool) (total more k : ℕ) → total ≡ count_below p (64 * k) →
    more ≡ count_below q 64 → ((c : ℕ) → c < 64 → q c ≡ p (64 * k + c)) →
    total + more ≡ count_below p (64 * (k + 1))
one_word p q total more k before here same =
    ap (λ n. n + more) before ∙
    ap (λ n. count_below p (64 * k) + n)
    (here ∙ count_below-same q (λ c. p (64 * k + c)) 64 same) ∙
    sym (count_below-split p (64 * k) 64 (64 * (k + 1)) (omega arith))

-- a row more
pub one_row : (f : ℕ → ℕ) (p q : ℕ → Bool) (total more y s n : ℕ) → total ≡ sum_below f y →
    more ≡ count_below p n → n ≡ s → f y ≡ count_below q s →
    ((x : ℕ) → x < s → p x ≡ q x) →
    total + more ≡ sum_below f (y + 1)
one_row f p q total more y s n before here whole row same =
    ap (λ k. k + more) before ∙
    ap (λ k. sum_below f y + k)
    (here ∙ ap (count_below p) whole ∙ count_below-same p q s same ∙ sym row) ∙
    sym (sum_below-more f y)
