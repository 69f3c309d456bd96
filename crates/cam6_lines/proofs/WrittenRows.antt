-- Rows that are written one by one, each word by word.
use Rattle.std.proofs.Common.{◌≡◌, ℕ, ◌+◌, ◌-◌, ◌*◌, ◌<◌, ◌≤◌, Bool, List, length, get_or, set}
use Rattle.std.proofs.Common.{sym, ◌∙◌, ap, arith}
use native.Mathlib.Decide.{dec_lt}
use Rattle.cam6_planes.specs.declared.sides.Side.{Side}
use Rattle.cam6_planes.specs.declared.sides.Side.TheVariants.{S128, S256, S512}
use Rattle.cam6_planes.specs.Row.{column_bit}
use Rattle.cam6_planes.proofs.WordByWord.{column_bit-at, column_bit-set_other, column_bit-set_same}
use Rattle.cam6_lines.specs.Units.{columns, place}

-- one more word of a row, from word at on
pub word_more : (part row : List ℕ) (at k : ℕ) → at + k < length part →
    ((x : ℕ) → x < 64 * k → column_bit part (64 * at + x) ≡ column_bit row x) →
    (x : ℕ) → x < 64 * (k + 1) →
    column_bit (set part (at + k) (get_or row k 0)) (64 * at + x) ≡ column_bit row x
word_more part row at k room done x h =
    elim (dec_lt x (64 * k)) [
      | Prim.yes lt ↦
          column_bit-set_other part (at + k) (get_or row k 0) (64 * at + x) (omega (arith, lt)) ∙
          done x lt
      | Prim.no ge ↦
          let c : ℕ = x - 64 * k in
          let within : c < 64 = omega (arith, h, ge) in
          let there : 64 * at + x ≡ 64 * (at + k) + (x - 64 * k) = omega (arith, ge) in
          let here : 64 * k + (x - 64 * k) ≡ x = omega (arith, ge) in
          ap (column_bit (set part (at + k) (get_or row k 0))) there ∙
          column_bit-set_same part (at + k) (get_or row k 0) c room within ∙
          sym (column_bit-at row k c within) ∙ ap (column_bit row) here
    ]

-- the words of row j begin where its columns do
pub row_begins : (side : Side) (w j : ℕ) → 64 * w ≡ columns side → 64 * (w * j) ≡ columns side * j
row_begins S128 w j e = let two : w ≡ 2 = omega (arith, e) in rw two (omega arith)
row_begins S256 w j e = let four : w ≡ 4 = omega (arith, e) in rw four (omega arith)
row_begins S512 w j e = let four : w ≡ 4 = omega (arith, e) in rw four (omega arith)

-- and lie within the part
pub row_fits : (side : Side) (w j : ℕ) → 64 * w ≡ columns side → j < 18 → w * j + w ≤ 72
row_fits S128 w j e h = let two : w ≡ 2 = omega (arith, e) in rw two (omega (arith, h))
row_fits S256 w j e h = let four : w ≡ 4 = omega (arith, e) in rw four (omega (arith, h))
row_fits S512 w j e h = let four : w ≡ 4 = omega (arith, e) in rw four (omega (arith, h))

-- the places of earlier rows come before
pub earlier : (side : Side) (r j i : ℕ) → r < j → i < columns side →
    place side r i < columns side * j
earlier S128 r j i h l = omega (arith, h, l)
earlier S256 r j i h l = omega (arith, h, l)
earlier S512 r j i h l = omega (arith, h, l)

-- one more row of a part, where g says the bit at each column of each row
pub rows_more : (side : Side) (g : ℕ → ℕ → Bool) (old new row : List ℕ) (w first j : ℕ) →
    64 * w ≡ columns side →
    ((x : ℕ) → x < 64 * w → column_bit new (64 * (w * j) + x) ≡ column_bit row x) →
    ((x : ℕ) → x < 64 * (w * j) → column_bit new x ≡ column_bit old x) →
    ((i : ℕ) → i < columns side → column_bit row i ≡ g j i) →
    ((r i : ℕ) → first ≤ r → r < j → i < columns side → column_bit old (place side r i) ≡ g r i) →
    (r i : ℕ) → first ≤ r → r < j + 1 → i < columns side → column_bit new (place side r i) ≡ g r i
rows_more side g old new row w first j e here before made done r i from h l =
    elim (dec_lt r j) [
      | Prim.yes lt ↦
          before (place side r i)
          (omega (arith, earlier side r j i lt l, row_begins side w j e)) ∙ done r i from lt l
      | Prim.no ge ↦
          let last : r ≡ j = omega (arith, h, ge) in
          ap (λ n. column_bit new (columns side * n + i)) last ∙
          ap (λ n. column_bit new (n + i)) (sym (row_begins side w j e)) ∙
          here i (omega (arith, l, e)) ∙ made i l ∙ ap (λ n. g n i) (sym last)
    ]
