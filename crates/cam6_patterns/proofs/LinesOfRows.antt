-- The lines of a pattern's rows, one after another.
use Rattle.std.proofs.Common.{◌≡◌, ◌<◌, ◌≤◌, ◌+◌, ◌-◌, ◌%◌, ◌∙◌, ℕ, List, [], ◌∷◌, ◌++◌, length}
use Rattle.std.proofs.Common.{get_or, drop}
use Rattle.std.proofs.Common.{refl, sym, ap, arith, add-one, drop-cons, suc}
use Rattle.std.proofs.lemmas.List.{drop_all}
use Rattle.std.specs.Prelude.{flat_map}
use Rattle.std.specs.List.{range_with_len}
use Rattle.cam6_patterns.specs.Pattern.{Pattern}
use Rattle.cam6_patterns.specs.Placing.{set_line, bit_placed, row_lines, placed}
use Rattle.cam6_patterns.specs.Outcome.{lines_of_row}

-- the next line
pub next_line : (side first top : ℕ) (p : Pattern) (y k : ℕ) (planes : List ℕ)
    → k < length planes
    → lines_of_row side first top p y k (drop k planes)
    ≡ set_line side (get_or planes k 0) ((top + y) % side) (bit_placed side first p k y)
    ++ lines_of_row side first top p y (k + 1) (drop (k + 1) planes)
next_line side first top p y k planes within =
    let cut : drop k planes ≡ get_or planes k 0 ∷ drop (k + 1) planes =
    drop-cons planes k 0 within ∙ ap (λ n. get_or planes k 0 ∷ drop n planes) (sym (add-one k)) in
    ap (lines_of_row side first top p y k) cut

-- no line is left
pub no_line : (side first top : ℕ) (p : Pattern) (y k : ℕ) (planes : List ℕ)
    → length planes ≤ k → lines_of_row side first top p y k (drop k planes) ≡ []
no_line side first top p y k planes past =
    ap (lines_of_row side first top p y k) (drop_all k planes past)

-- they are those of the definition
pub same_lines : (side column row : ℕ) (p : Pattern) (y k : ℕ) (planes : List ℕ)
    → lines_of_row side (column + p.column) (row + p.row) p y k planes
    ≡ row_lines side column row p y k planes
same_lines side column row p y k [] = refl
same_lines side column row p y k (plane ∷ planes) =
    ap (λ later. set_line side plane ((row + p.row + y) % side)
    (bit_placed side (column + p.column) p k y) ++ later)
    (same_lines side column row p y (k + 1) planes)

-- the rows from y on
abbrev pub rows_from : ℕ → ℕ → ℕ → List ℕ → Pattern → ℕ → List ℕ
rows_from side column row planes p y =
    flat_map (λ y. row_lines side column row p y 0 planes) (range_with_len y (p.height - y))

-- all rows
pub all_rows : (side column row : ℕ) (planes : List ℕ) (p : Pattern)
    → placed side column row planes p ≡ rows_from side column row planes p 0
unfolding placed
all_rows side column row planes p =
    let whole : p.height - 0 ≡ p.height = omega arith in
    ap (λ n. flat_map (λ y. row_lines side column row p y 0 planes) (range_with_len 0 n)) (sym whole)

-- the next row
pub next_row : (side column row : ℕ) (planes : List ℕ) (p : Pattern) (y first top : ℕ)
    → first ≡ column + p.column → top ≡ row + p.row → y < p.height
    → rows_from side column row planes p y
    ≡ lines_of_row side first top p y 0 planes ++ rows_from side column row planes p (y + 1)
next_row side column row planes p y first top left_is top_is within =
    let f : ℕ → List ℕ = λ y. row_lines side column row p y 0 planes in
    let left : p.height - y ≡ suc (p.height - (y + 1)) = omega (arith, within) in
    ap (λ n. flat_map f (range_with_len y n)) left
    ∙ ap (λ lines. lines ++ rows_from side column row planes p (y + 1))
    (sym (same_lines side column row p y 0 planes)
    ∙ ap (λ x. lines_of_row side x (row + p.row) p y 0 planes) (sym left_is)
    ∙ ap (λ x. lines_of_row side first x p y 0 planes) (sym top_is))

-- no row is left
pub no_row : (side column row : ℕ) (planes : List ℕ) (p : Pattern) (y : ℕ) → p.height ≤ y
    → rows_from side column row planes p y ≡ []
no_row side column row planes p y past =
    let none : p.height - y ≡ 0 = omega (arith, past) in
    ap (λ n. flat_map (λ y. row_lines side column row p y 0 planes) (range_with_len y n)) none
