-- Rows of words whose columns are chosen by a mask.
use Rattle.std.proofs.Common.{◌≡◌, ℕ, ◌+◌, ◌*◌, ◌<◌, ◌==◌, Bool, List, get_or}
use Rattle.std.proofs.Common.{if◌then◌else◌, sym, ◌∙◌, ap, arith}
use Rattle.cam6_planes.specs.Row.{word_column, column_bit}
use Rattle.cam6_planes.proofs.WordByWord.{column_bit-at}
use Rattle.cam6_wiring.specs.Block.{side_in_block}
use Rattle.cam6_wiring.specs.declared.blocks.Grid.{Grid}

-- the right columns of one row, and the left ones of another
abbrev pub by_sides : Grid → List ℕ → List ℕ → ℕ → Bool
by_sides grid left right i =
    if side_in_block grid i == 1 then column_bit right i else column_bit left i

-- word k of a row is chosen by the right columns of the grid's blocks
pub chosen_here : (grid : Grid) (left right : List ℕ) (mask k word : ℕ) →
    ((c : ℕ) → c < 64 → word_column mask c ≡ (side_in_block grid c == 1)) →
    ((c : ℕ) → c < 64 → word_column word c
    ≡ (if word_column mask c then word_column (get_or right k 0) c
    else word_column (get_or left k 0) c)) →
    (c : ℕ) → c < 64 → word_column word c ≡ by_sides grid left right (64 * k + c)
chosen_here grid left right mask k word sides made c h =
    let same : side_in_block grid c ≡ side_in_block grid (64 * k + c) = omega arith in
    made c h ∙
    ap (λ b. if b then word_column (get_or right k 0) c else word_column (get_or left k 0) c)
    (sides c h ∙ ap (λ n. n == 1) same) ∙
    ap (λ b. if side_in_block grid (64 * k + c) == 1 then b
    else word_column (get_or left k 0) c) (sym (column_bit-at right k c h)) ∙
    ap (λ b. if side_in_block grid (64 * k + c) == 1 then column_bit right (64 * k + c) else b)
    (sym (column_bit-at left k c h))
