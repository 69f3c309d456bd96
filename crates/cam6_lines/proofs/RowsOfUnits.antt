-- The words of a unit's rows, and where the rows lie.
use Rattle.std.proofs.Common.{◌≡◌, ℕ, zero, suc, ◌+◌, ◌-◌, ◌*◌, ◌/◌, ◌%◌, ◌<◌, ◌≤◌}
use Rattle.std.proofs.Common.{Bool, List, [], ◌∷◌}
use Rattle.std.proofs.Common.{get_or, sym, ◌∙◌, ap, arith, ◌==◌}
use native.Mathlib.Decide.{dec_lt}
use Rattle.cam6_planes.specs.declared.sides.Side.{Side}
use Rattle.cam6_planes.specs.declared.sides.Side.TheVariants.{S128, S256, S512}
use Rattle.cam6_planes.specs.Row.{word_column, column_bit, west_of, east_of}
use Rattle.cam6_planes.specs.Side.{side_number}
use Rattle.cam6_planes.proofs.WordByWord.{column_bit-at, west_of-suc, east_of-lt}
use Rattle.cam6_wiring.specs.Block.{side_in_block}
use Rattle.cam6_wiring.specs.declared.blocks.Grid.{Grid}
use Rattle.cam6_lines.specs.Units.{columns}
use Rattle.cam6_lines.proofs.RowsAbove.{above_two}

-- the columns of four words
four_at : (row : List ℕ) (g : ℕ → Bool) (k i : ℕ) → 64 * k ≤ i → i < 64 * k + 64 →
    ((c : ℕ) → c < 64 → word_column (get_or row k 0) c ≡ g (64 * k + c)) → column_bit row i ≡ g i
four_at row g k i from before here =
    let c : i - 64 * k < 64 = omega (arith, from, before) in
    let e : 64 * k + (i - 64 * k) ≡ i = omega (arith, from) in
    ap (column_bit row) (sym e) ∙ column_bit-at row k (i - 64 * k) c ∙ here (i - 64 * k) c ∙ ap g e

pub four_words : (g : ℕ → Bool) (m first second third fourth : ℕ) →
    (0 < m → (c : ℕ) → c < 64 → word_column first c ≡ g (64 * 0 + c)) →
    (64 < m → (c : ℕ) → c < 64 → word_column second c ≡ g (64 * 1 + c)) →
    (128 < m → (c : ℕ) → c < 64 → word_column third c ≡ g (64 * 2 + c)) →
    (192 < m → (c : ℕ) → c < 64 → word_column fourth c ≡ g (64 * 3 + c)) →
    (i : ℕ) → i < m → i < 256 → column_bit (first ∷ second ∷ third ∷ fourth ∷ []) i ≡ g i
four_words g m first second third fourth a b c d i h k =
    let row = first ∷ second ∷ third ∷ fourth ∷ [] in
    elim (dec_lt i 64) [
      | Prim.yes l ↦ four_at row g 0 i (omega arith) (omega (arith, l)) (a (omega (arith, h)))
      | Prim.no l ↦
          elim (dec_lt i 128) [
            | Prim.yes n ↦
                four_at row g 1 i (omega (arith, l)) (omega (arith, n)) (b (omega (arith, h, l)))
            | Prim.no n ↦
                elim (dec_lt i 192) [
                  | Prim.yes o ↦
                      four_at row g 2 i (omega (arith, n)) (omega (arith, o))
                      (c (omega (arith, h, n)))
                  | Prim.no o ↦
                      four_at row g 3 i (omega (arith, o)) (omega (arith, k))
                      (d (omega (arith, h, o)))
                ]
          ]
    ]

pub columns_most : (side : Side) → columns side ≤ 256
columns_most S128 = omega arith
columns_most S256 = omega arith
columns_most S512 = omega arith

-- a unit's columns lie within the row
pub unit_within : (side : Side) (unit i : ℕ) → columns side * unit < side_number side →
    i < columns side → columns side * unit + i < side_number side
unit_within S128 unit i h k = omega (arith, h, k)
unit_within S256 unit i h k = omega (arith, h, k)
unit_within S512 unit i h k = omega (arith, h, k)

-- and its words, of which word k of the row is needed
pub words_within : (side : Side) (unit k w n : ℕ) → columns side * unit < side_number side →
    64 * k < columns side → 64 * w ≡ columns side → 64 * n ≡ side_number side →
    w * unit + k < n
words_within S128 unit k w n h l e f =
    let two : w ≡ 2 = omega (arith, e) in rw two (omega (arith, h, l, f))
words_within S256 unit k w n h l e f =
    let four : w ≡ 4 = omega (arith, e) in rw four (omega (arith, h, l, f))
words_within S512 unit k w n h l e f =
    let four : w ≡ 4 = omega (arith, e) in rw four (omega (arith, h, l, f))

-- where a column of a unit's word lies in the row
pub column_there : (side : Side) (unit k w c : ℕ) → 64 * w ≡ columns side →
    64 * (w * unit + k) + c ≡ columns side * unit + (64 * k + c)
column_there S128 unit k w c e = let two : w ≡ 2 = omega (arith, e) in rw two (omega arith)
column_there S256 unit k w c e = let four : w ≡ 4 = omega (arith, e) in rw four (omega arith)
column_there S512 unit k w c e = let four : w ≡ 4 = omega (arith, e) in rw four (omega arith)

-- above the row above is the row that is one less far along
pub north_of : (s first j : ℕ) → 0 < j → first + 16 ≤ s → j < 17 →
    west_of s (west_of s (first + j)) ≡ west_of s (first + (j - 1))
north_of s first j some within h =
    let e : first + j ≡ first + (j - 1) + 1 = omega (arith, some) in
    ap (west_of s) (ap (west_of s) e ∙ west_of-suc s (first + (j - 1)) (omega (arith, within, h)))

-- and below it the one that is one further
pub south_of : (s first j : ℕ) → 0 < j → first + 16 ≤ s → j < 17 →
    east_of s (west_of s (first + j)) ≡ west_of s (first + (j + 1))
south_of s first j some within h =
    let e : first + j ≡ first + (j - 1) + 1 = omega (arith, some) in
    let two : first + (j + 1) ≡ first + (j - 1) + 2 = omega (arith, some) in
    ap (east_of s)
    (ap (west_of s) e ∙ west_of-suc s (first + (j - 1)) (omega (arith, within, h))) ∙
    sym (ap (west_of s) two ∙ above_two s (first + (j - 1)) (omega (arith, within)))

-- row j of a part is of the row before the j-th of the band
pub row_of_band : (s first j : ℕ) → 0 < j → first + 16 ≤ s → j < 17 →
    west_of s (first + j) ≡ first + j - 1
row_of_band s first j some within h =
    let e : first + j ≡ first + j - 1 + 1 = omega (arith, some) in
    ap (west_of s) e ∙ west_of-suc s (first + j - 1) (omega (arith, some, within, h))

-- a unit begins at a column of even number
pub same_parity : (side : Side) (unit i o : ℕ) → (columns side * unit + i + o) % 2 ≡ (i + o) % 2
same_parity S128 unit i o = omega arith
same_parity S256 unit i o = omega arith
same_parity S512 unit i o = omega arith

-- rows of four words that are the same
pub same_words : (w : ℕ) (bit : Bool) → ((c : ℕ) → c < 64 → word_column w c ≡ bit) →
    (i : ℕ) → i < 256 → column_bit (w ∷ w ∷ w ∷ w ∷ []) i ≡ bit
same_words w bit is i h =
    four_words (λ x. bit) 256 w w w w (λ x. is) (λ x. is) (λ x. is) (λ x. is) i h h

pub right_words : (grid : Grid) (w : ℕ) →
    ((c : ℕ) → c < 64 → word_column w c ≡ (side_in_block grid c == 1)) →
    (i : ℕ) → i < 256 → column_bit (w ∷ w ∷ w ∷ w ∷ []) i ≡ (side_in_block grid i == 1)
right_words grid w is i h =
    let word : (k c : ℕ) → c < 64 → word_column w c ≡ (side_in_block grid (64 * k + c) == 1) =
    λ k c l.
    let same : side_in_block grid c ≡ side_in_block grid (64 * k + c) = omega arith in
    is c l ∙ ap (λ n. n == 1) same in
    four_words (λ x. side_in_block grid x == 1) 256 w w w w (λ x. word 0) (λ x. word 1)
    (λ x. word 2) (λ x. word 3) i h h

-- what holds of each of four words
pub each_of_four : (P : ℕ → Type 0) → P 0 → P 1 → P 2 → P 3 → (k : ℕ) → k < 4 → P k
each_of_four P a b c d zero h = a
each_of_four P a b c d (suc zero) h = b
each_of_four P a b c d (suc (suc zero)) h = c
each_of_four P a b c d (suc (suc (suc zero))) h = d
each_of_four P a b c d (suc (suc (suc (suc k)))) h = absurd (omega (arith, h))

-- the last column of the word before lies to the west of a word's first
pub before_word : (n i before : ℕ) → i ≡ before + 1 → i < n →
    west_of (64 * n) (64 * i) ≡ 64 * before + 63
before_word n i before e h =
    let first : 64 * i ≡ 64 * before + 63 + 1 = omega (arith, e) in
    ap (west_of (64 * n)) first ∙ west_of-suc (64 * n) (64 * before + 63) (omega (arith, e, h))

-- words that show their columns of a row show them at the unit's columns
pub columns_shown : (side : Side) (unit w n : ℕ) (made : List ℕ) (g : ℕ → Bool) →
    columns side * unit < side_number side → 64 * w ≡ columns side → 64 * n ≡ side_number side →
    ((k c : ℕ) → k < 4 → w * unit + k < n → c < 64 →
    word_column (get_or made k 0) c ≡ g (64 * (w * unit + k) + c)) →
    (i : ℕ) → i < columns side → column_bit made i ≡ g (columns side * unit + i)
columns_shown side unit w n made g within e f is i h =
    let k : ℕ = i / 64 in
    let from : 64 * (i / 64) ≤ i = omega arith in
    let before : i < 64 * (i / 64) + 64 = omega arith in
    let four : i / 64 < 4 = omega (arith, h, columns_most side) in
    let there : w * unit + k < n =
    words_within side unit k w n within (omega (arith, from, h)) e f in
    four_at made (λ x. g (columns side * unit + x)) k i from before
    (λ c l. is k c four there l ∙ ap g (column_there side unit k w c e))

-- the words of a row have its columns
pub words_in_row : (side : Side) → 64 * (side_number side / 64) ≡ side_number side
words_in_row S128 = omega arith
words_in_row S256 = omega arith
words_in_row S512 = omega arith

-- the first column of the next word lies to the east of a word's last
pub after_word : (n i after : ℕ) → after ≡ i + 1 → after < n →
    east_of (64 * n) (64 * i + 63) ≡ 64 * after
after_word n i after e h =
    east_of-lt (64 * n) (64 * i + 63) (omega (arith, e, h)) ∙ omega (arith, e)
