-- Units that are combined word by word.
use Rattle.std.proofs.Common.{◌≡◌, ℕ, zero, suc, ◌+◌, ◌-◌, ◌*◌, ◌%◌, ◌^◌, ◌<◌, Bool, true, false}
use Rattle.std.proofs.Common.{List, length, get_or, set, nat_eq, not}
use Rattle.std.proofs.Common.{◌&&◌, ◌||◌, if◌then◌else◌, refl, sym, ◌∙◌, ap}
use Rattle.std.proofs.Common.{arith, bit_and, bit_or, bit_xor, min, max}
use Rattle.std.specs.Int.{bit_at, bit_not, w64}
use Rattle.std.proofs.lemmas.Nat.Bits.{bit_at_and, bit_at_or, bit_at_xor, bit_at_not, bit_at-lt}
use Rattle.cam6_planes.specs.Row.{word_column, column_bit}
use Rattle.cam6_planes.proofs.WordByWord.{column_bit-at, row_more}

-- every number below two
two : (P : ℕ → Type 0) → P 0 → P 1 → (n : ℕ) → n < 2 → P n
two P p q zero h = p
two P p q (suc zero) h = q
two P p q (suc (suc n)) h = absurd (omega arith)

both : (x y : ℕ) → x < 2 → y < 2 → nat_eq (min x y) 1 ≡ (nat_eq x 1 && nat_eq y 1)
both x y h k =
    two (λ x. nat_eq (min x y) 1 ≡ (nat_eq x 1 && nat_eq y 1))
    (two (λ y. nat_eq (min 0 y) 1 ≡ (nat_eq 0 1 && nat_eq y 1)) refl refl y k)
    (two (λ y. nat_eq (min 1 y) 1 ≡ (nat_eq 1 1 && nat_eq y 1)) refl refl y k) x h

either : (x y : ℕ) → x < 2 → y < 2 → nat_eq (max x y) 1 ≡ (nat_eq x 1 || nat_eq y 1)
either x y h k =
    two (λ x. nat_eq (max x y) 1 ≡ (nat_eq x 1 || nat_eq y 1))
    (two (λ y. nat_eq (max 0 y) 1 ≡ (nat_eq 0 1 || nat_eq y 1)) refl refl y k)
    (two (λ y. nat_eq (max 1 y) 1 ≡ (nat_eq 1 1 || nat_eq y 1)) refl refl y k) x h

one_of : (x y : ℕ) → x < 2 → y < 2 →
    nat_eq ((x + y) % 2) 1 ≡ (if nat_eq x 1 then not (nat_eq y 1) else nat_eq y 1)
one_of x y h k =
    two (λ x. nat_eq ((x + y) % 2) 1 ≡ (if nat_eq x 1 then not (nat_eq y 1) else nat_eq y 1))
    (two (λ y. nat_eq ((0 + y) % 2) 1 ≡ (if nat_eq 0 1 then not (nat_eq y 1) else nat_eq y 1))
    refl refl y k)
    (two (λ y. nat_eq ((1 + y) % 2) 1 ≡ (if nat_eq 1 1 then not (nat_eq y 1) else nat_eq y 1))
    refl refl y k) x h

other_one : (x : ℕ) → x < 2 → nat_eq (1 - x) 1 ≡ not (nat_eq x 1)
other_one x h = two (λ x. nat_eq (1 - x) 1 ≡ not (nat_eq x 1)) refl refl x h

pub and_column : (x y c : ℕ) →
    word_column (bit_and x y) c ≡ (word_column x c && word_column y c)
unfolding word_column
and_column x y c =
    ap (λ n. nat_eq n 1) (bit_at_and x y (63 - c)) ∙
    both (bit_at x (63 - c)) (bit_at y (63 - c)) (bit_at-lt x (63 - c)) (bit_at-lt y (63 - c))

pub or_column : (x y c : ℕ) → word_column (bit_or x y) c ≡ (word_column x c || word_column y c)
unfolding word_column
or_column x y c =
    ap (λ n. nat_eq n 1) (bit_at_or x y (63 - c)) ∙
    either (bit_at x (63 - c)) (bit_at y (63 - c)) (bit_at-lt x (63 - c)) (bit_at-lt y (63 - c))

pub xor_column : (x y c : ℕ) → word_column (bit_xor x y) c ≡
    (if word_column x c then not (word_column y c) else word_column y c)
unfolding word_column
xor_column x y c =
    ap (λ n. nat_eq n 1) (bit_at_xor x y (63 - c)) ∙
    one_of (bit_at x (63 - c)) (bit_at y (63 - c)) (bit_at-lt x (63 - c)) (bit_at-lt y (63 - c))

pub not_column : (x c : ℕ) → x < 2 ^ 64 → word_column (bit_not w64 x) c ≡ not (word_column x c)
unfolding word_column
not_column x c h =
    ap (λ n. nat_eq n 1) (bit_at_not w64 x (63 - c) h (omega arith)) ∙
    other_one (bit_at x (63 - c)) (bit_at-lt x (63 - c))

chosen : (by low high : Bool) →
    (if low then not (by && (if low then not high else high))
    else (by && (if low then not high else high))) ≡ (if by then high else low)
chosen true true true = refl
chosen true true false = refl
chosen true false true = refl
chosen true false false = refl
chosen false true true = refl
chosen false true false = refl
chosen false false true = refl
chosen false false false = refl

pub choice_column : (by low high c : ℕ) →
    word_column (bit_xor low (bit_and by (bit_xor low high))) c ≡
    (if word_column by c then word_column high c else word_column low c)
choice_column by low high c =
    xor_column low (bit_and by (bit_xor low high)) c ∙
    ap (λ b. if word_column low c then not b else b)
    (and_column by (bit_xor low high) c ∙ ap (λ b. word_column by c && b) (xor_column low high c)) ∙
    chosen (word_column by c) (word_column low c) (word_column high c)

-- one more word of a unit, whose bit at each column f says of the bits of two others there
pub one_more : (f : Bool → Bool → Bool) (first second out : List ℕ) (k word : ℕ) →
    k < length out →
    ((c : ℕ) → c < 64 →
    word_column word c ≡ f (word_column (get_or first k 0) c) (word_column (get_or second k 0) c)) →
    ((c : ℕ) → c < 64 * k → column_bit out c ≡ f (column_bit first c) (column_bit second c)) →
    (c : ℕ) → c < 64 * (k + 1) →
    column_bit (set out k word) c ≡ f (column_bit first c) (column_bit second c)
one_more f first second out k word room here below =
    row_more (λ c. f (column_bit first c) (column_bit second c)) out k word room below
    (λ c h. here c h ∙
    ap (λ b. f b (word_column (get_or second k 0) c)) (sym (column_bit-at first k c h)) ∙
    ap (f (column_bit first (64 * k + c))) (sym (column_bit-at second k c h)))

-- and of three
pub one_more_of_three : (f : Bool → Bool → Bool → Bool) (first second third out : List ℕ)
    (k word : ℕ) → k < length out →
    ((c : ℕ) → c < 64 →
    word_column word c ≡ f (word_column (get_or first k 0) c) (word_column (get_or second k 0) c)
    (word_column (get_or third k 0) c)) →
    ((c : ℕ) → c < 64 * k →
    column_bit out c ≡ f (column_bit first c) (column_bit second c) (column_bit third c)) →
    (c : ℕ) → c < 64 * (k + 1) →
    column_bit (set out k word) c
    ≡ f (column_bit first c) (column_bit second c) (column_bit third c)
one_more_of_three f first second third out k word room here below =
    row_more (λ c. f (column_bit first c) (column_bit second c) (column_bit third c)) out k word
    room below
    (λ c h. here c h ∙
    ap (λ b. f b (word_column (get_or second k 0) c) (word_column (get_or third k 0) c))
    (sym (column_bit-at first k c h)) ∙
    ap (λ b. f (column_bit first (64 * k + c)) b (word_column (get_or third k 0) c))
    (sym (column_bit-at second k c h)) ∙
    ap (f (column_bit first (64 * k + c)) (column_bit second (64 * k + c)))
    (sym (column_bit-at third k c h)))
