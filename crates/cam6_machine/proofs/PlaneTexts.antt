-- The texts of a plane's rows, row by row.
use Rattle.std.proofs.Common.{◌≡◌, ℕ, ◌+◌, List, [], ◌∷◌, ◌++◌, map, All, get_or, refl, arith}
use Rattle.std.specs.Str.{IsAscii}
use Rattle.std.proofs.lemmas.List.Elements.{All-map}
use Rattle.std.specs.List.{range_with_len}
use Rattle.std.proofs.lemmas.List.FromFn.{map-range_with_len_more}
use Rattle.cam6_planes.specs.Digits.{row_text}
use Rattle.cam6_planes.specs.Cells.{Cells}
use Rattle.cam6_planes.proofs.AsciiTexts.{row_text-ascii}
use Rattle.cam6_model.specs.Effects.{plane_rows}

pub plane_rows-zero : (n : ℕ) (f : Cells) (p : ℕ) → plane_rows 0 n f p ≡ []
unfolding plane_rows
plane_rows-zero n f p = refl

-- one more row
pub plane_rows-suc : (s n : ℕ) (f : Cells) (p : ℕ) →
    plane_rows (s + 1) n f p ≡ plane_rows s n f p ++ row_text n (λ x. f p x s) ∷ []
unfolding plane_rows
plane_rows-suc s n f p =
    map-range_with_len_more (λ y. row_text n (λ x. f p x y)) 0 s s (omega arith)

each-ascii : (n : ℕ) (f : Cells) (p : ℕ) (ys : List ℕ) →
    All IsAscii (map (λ y. row_text n (λ x. f p x y)) ys)
each-ascii n f p ys =
    All-map IsAscii (λ y. row_text n (λ x. f p x y)) ys
    (λ k d h. row_text-ascii n (λ x. f p x (get_or ys k d)))

-- the rows of a plane are ASCII texts
pub plane_rows-ascii : (s n : ℕ) (f : Cells) (p : ℕ) → All IsAscii (plane_rows s n f p)
unfolding plane_rows
plane_rows-ascii s n f p = each-ascii n f p (range_with_len 0 s)
