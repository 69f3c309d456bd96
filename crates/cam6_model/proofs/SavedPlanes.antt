-- The bytes of a plane's rows, row by row, and the cells that they show.
use Rattle.std.proofs.Common.{◌≡◌, ℕ, zero, suc, ◌+◌, ◌/◌, ◌<◌, List, [], ◌∷◌, ◌++◌, map, refl}
use Rattle.std.proofs.Common.{ap, ◌∙◌, arith, get_or, length}
use Rattle.std.specs.List.{range_with_len}
use Rattle.std.proofs.lemmas.List.FromFn.{map-range_with_len_more, get_or-map-range_with_len}
use Rattle.std.proofs.lemmas.List.FromFn.{length-map-range_with_len}
use Rattle.cam6_planes.specs.Side.{side_number}
use Rattle.cam6_planes.specs.declared.sides.Side.{Side}
use Rattle.cam6_planes.specs.Row.{byte_column}
use Rattle.cam6_planes.specs.Digits.{row_bytes}
use Rattle.cam6_planes.specs.Cells.{Cells, torus}
use Rattle.cam6_planes.proofs.RowBytes.{row_bytes-show}
use Rattle.cam6_planes.proofs.CellsAt.{torus_same}
use Rattle.cam6_planes.proofs.SideNumbers.{side_words}
use Rattle.cam6_model.specs.Saved.{plane_bytes, four_planes, saved_bit}
use Rattle.cam6_model.proofs.StepsOfATorus.{side_some}

-- the bytes of the first k rows, n of each
unfoldable pub first_bytes : ℕ → ℕ → Cells → ℕ → List (List ℕ)
first_bytes k n f p = map (λ y. row_bytes n (λ x. f p x y)) (range_with_len 0 k)

-- none of them, one more, and all
pub first_bytes-zero : (n : ℕ) (f : Cells) (p : ℕ) → first_bytes 0 n f p ≡ []
unfolding first_bytes
first_bytes-zero n f p = refl

pub first_bytes-suc : (k n : ℕ) (f : Cells) (p : ℕ) →
    first_bytes (k + 1) n f p ≡ first_bytes k n f p ++ row_bytes n (λ x. f p x k) ∷ []
unfolding first_bytes
first_bytes-suc k n f p =
    map-range_with_len_more (λ y. row_bytes n (λ x. f p x y)) 0 k k (omega arith)

pub first_bytes-all : (s : ℕ) (f : Cells) (p : ℕ) → first_bytes s (s / 8) f p ≡ plane_bytes s f p
unfolding first_bytes plane_bytes
first_bytes-all s f p = refl

-- as many rows as the side has, each of its cells
pub plane_bytes-long : (s : ℕ) (f : Cells) (p : ℕ) → length (plane_bytes s f p) ≡ s
unfolding plane_bytes
plane_bytes-long s f p =
    length-map-range_with_len (λ y. row_bytes (s / 8) (λ x. f p x y)) 0 s

pub plane_bytes-at : (s : ℕ) (f : Cells) (p y : ℕ) → y < s →
    get_or (plane_bytes s f p) y [] ≡ row_bytes (s / 8) (λ x. f p x y)
unfolding plane_bytes
plane_bytes-at s f p y within =
    get_or-map-range_with_len (λ y. row_bytes (s / 8) (λ x. f p x y)) 0 s y y [] within
    (omega arith)

-- each of four planes
pub plane_is : (s : ℕ) (f : Cells) (p : ℕ) → p < 4 →
    get_or (four_planes s f) p [] ≡ plane_bytes s f p
plane_is s f zero h = refl
plane_is s f (suc zero) h = refl
plane_is s f (suc (suc zero)) h = refl
plane_is s f (suc (suc (suc zero))) h = refl
plane_is s f (suc (suc (suc (suc p)))) h = absurd (omega (arith, h))

-- the bytes of four planes show the planes
pub planes_back : (side : Side) (f : Cells) → torus (side_number side) f ≡ f →
    torus (side_number side) (saved_bit (four_planes (side_number side) f)) ≡ f
planes_back side f whole =
    let s = side_number side in
    torus_same s (saved_bit (four_planes s f)) f (side_some side)
    (λ p x y h k l.
    ap (λ rows. byte_column (get_or rows y []) x) (plane_is s f p h)
    ∙ ap (λ row. byte_column row x) (plane_bytes-at s f p y l)
    ∙ row_bytes-show (s / 8) (λ x. f p x y) x (omega (arith, k, side_words side)))
    ∙ whole
