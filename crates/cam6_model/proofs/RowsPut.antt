-- Planes whose rows are written one after another.
use Rattle.std.proofs.Common.{◌≡◌, ℕ, zero, suc, ◌+◌, ◌*◌, ◌/◌, ◌∷◌, ◌<◌, Bool, true, false}
use Rattle.std.proofs.Common.{◌&&◌, List, []}
use Rattle.std.proofs.Common.{get_or, length, refl, sym, ap, ◌∙◌, arith, if◌then◌else◌, ◌==◌}
use Rattle.std.proofs.Common.{cond, nat_lt}
use Rattle.std.specs.List.{list_all}
use Rattle.std.proofs.lemmas.Bool.{lt-ltb, eqb-true, and_parts}
use Rattle.std.proofs.lemmas.Bool.Decides.{Decides-eqb}
use Rattle.cam6_planes.specs.Row.{byte_column}
use Rattle.cam6_planes.specs.Side.{side_number}
use Rattle.cam6_planes.specs.declared.sides.Side.{Side}
use Rattle.cam6_planes.specs.Cells.{Cells, torus, with_row, no_cells}
use Rattle.cam6_planes.proofs.CellsAt.{torus_at, torus_same}
use Rattle.cam6_planes.proofs.SideNumbers.{side_words}
use Rattle.cam6_model.specs.Saved.{saved_bit}
use Rattle.cam6_model.specs.Refusals.{is_row, are_rows, are_planes}

-- the same cells but for the first n rows of plane p, which are these
abbrev pub with_rows : ℕ → Cells → ℕ → ℕ → List (List ℕ) → Cells
with_rows s f p n rows =
    torus s (λ q x y.
    if (q == p) && nat_lt y n then byte_column (get_or rows y []) x else f q x y)

-- no row yet
pub with_rows-none : (s : ℕ) (f : Cells) (p : ℕ) (rows : List (List ℕ)) → 0 < s →
    torus s f ≡ f → with_rows s f p 0 rows ≡ f
with_rows-none s f p rows some whole =
    torus_same s
    (λ q x y. if (q == p) && nat_lt y 0 then byte_column (get_or rows y []) x else f q x y) f some
    (λ q x y h k l. by_plane (q == p) q x y) ∙ whole
  where
    by_plane : (b : Bool) (q x y : ℕ) →
        cond (b && nat_lt y 0) (byte_column (get_or rows y []) x) (f q x y) ≡ f q x y
    by_plane true q x y =
        let past : nat_lt y 0 ≡ false = grind arith in
        ap (λ b. cond b (byte_column (get_or rows y []) x) (f q x y)) past
    by_plane false q x y = refl

-- one row more
pub with_rows-more : (s : ℕ) (f : Cells) (p n : ℕ) (rows : List (List ℕ)) → 0 < s →
    with_row s (with_rows s f p n rows) p n (byte_column (get_or rows n []))
    ≡ with_rows s f p (n + 1) rows
with_rows-more s f p n rows some =
    torus_same s
    (λ q x y. if (q == p) && (y == n) then byte_column (get_or rows n []) x
    else with_rows s f p n rows q x y)
    (λ q x y. if (q == p) && nat_lt y (n + 1) then byte_column (get_or rows y []) x else f q x y)
    some
    (λ q x y h k l.
    ap (λ old. if (q == p) && (y == n) then byte_column (get_or rows n []) x else old)
    (torus_at s (λ q x y. if (q == p) && nat_lt y n then byte_column (get_or rows y []) x
    else f q x y) q x y h k l)
    ∙ by_plane (q == p) q x y)
  where
    -- above the row, at it and below it
    by_row : (a b c : Bool) (q x y : ℕ) → (y == n) ≡ a → nat_lt y n ≡ b → nat_lt y (n + 1) ≡ c →
        cond a (byte_column (get_or rows n []) x)
        (cond b (byte_column (get_or rows y []) x) (f q x y))
        ≡ cond c (byte_column (get_or rows y []) x) (f q x y)
    by_row true b true q x y here above within =
        ap (λ k. byte_column (get_or rows k []) x) (sym ((Decides-eqb y n).0 here))
    by_row true b false q x y here above within =
        let same = (Decides-eqb y n).0 here in
        let never : ⊥ = grind (arith, within, same) in absurd never
    by_row false true true q x y here above within = refl
    by_row false true false q x y here above within =
        let never : ⊥ = grind (arith, above, within) in absurd never
    by_row false false false q x y here above within = refl
    by_row false false true q x y here above within =
        let apart = (Decides-eqb y n).1 in
        let same : y ≡ n = grind (arith, above, within) in
        let never : ⊥ = cc (here, apart same) in absurd never

    by_plane : (b : Bool) (q x y : ℕ) →
        cond (b && (y == n)) (byte_column (get_or rows n []) x)
        (cond (b && nat_lt y n) (byte_column (get_or rows y []) x) (f q x y))
        ≡ cond (b && nat_lt y (n + 1)) (byte_column (get_or rows y []) x) (f q x y)
    by_plane true q x y = by_row (y == n) (nat_lt y n) (nat_lt y (n + 1)) q x y refl refl refl
    by_plane false q x y = refl

-- the first so many of four planes, and none of the others
abbrev pub planes_put : ℕ → ℕ → List (List (List ℕ)) → Cells
planes_put s p planes = torus s (λ q x y. if nat_lt q p then saved_bit planes q x y else false)

pub planes_put-none : (s : ℕ) (planes : List (List (List ℕ))) → 0 < s →
    planes_put s 0 planes ≡ torus s no_cells
planes_put-none s planes some =
    torus_same s (λ q x y. if nat_lt q 0 then saved_bit planes q x y else false) no_cells some
    (λ q x y h k l.
    let past : nat_lt q 0 ≡ false = grind arith in
    ap (λ b. cond b (saved_bit planes q x y) false) past)

-- one plane more, of which all rows are written
pub planes_put-more : (s p : ℕ) (planes : List (List (List ℕ))) → 0 < s →
    length (get_or planes p []) ≡ s →
    with_rows s (planes_put s p planes) p (length (get_or planes p [])) (get_or planes p [])
    ≡ planes_put s (p + 1) planes
planes_put-more s p planes some long =
    torus_same s
    (λ q x y. if (q == p) && nat_lt y (length (get_or planes p []))
    then byte_column (get_or (get_or planes p []) y []) x else planes_put s p planes q x y)
    (λ q x y. if nat_lt q (p + 1) then saved_bit planes q x y else false) some
    (λ q x y h k l.
    ap (λ b. if (q == p) && b then byte_column (get_or (get_or planes p []) y []) x
    else planes_put s p planes q x y)
    (lt-ltb y (length (get_or planes p [])) (omega (arith, l, long)))
    ∙ ap (λ old. if (q == p) && true then byte_column (get_or (get_or planes p []) y []) x else old)
    (torus_at s (λ q x y. if nat_lt q p then saved_bit planes q x y else false) q x y h k l)
    ∙ by_plane (q == p) (nat_lt q p) (nat_lt q (p + 1)) q x y refl refl refl)
  where
    by_plane : (a b c : Bool) (q x y : ℕ) → (q == p) ≡ a → nat_lt q p ≡ b → nat_lt q (p + 1) ≡ c →
        cond (a && true) (byte_column (get_or (get_or planes p []) y []) x)
        (cond b (saved_bit planes q x y) false)
        ≡ cond c (saved_bit planes q x y) false
    by_plane true b true q x y here above within =
        ap (λ k. saved_bit planes k x y) (sym ((Decides-eqb q p).0 here))
    by_plane true b false q x y here above within =
        let same = (Decides-eqb q p).0 here in
        let never : ⊥ = grind (arith, within, same) in absurd never
    by_plane false true true q x y here above within = refl
    by_plane false true false q x y here above within =
        let never : ⊥ = grind (arith, above, within) in absurd never
    by_plane false false false q x y here above within = refl
    by_plane false false true q x y here above within =
        let apart = (Decides-eqb q p).1 in
        let same : q ≡ p = grind (arith, above, within) in
        let never : ⊥ = cc (here, apart same) in absurd never

-- all four
pub planes_put-all : (s : ℕ) (planes : List (List (List ℕ))) → 0 < s →
    planes_put s 4 planes ≡ torus s (saved_bit planes)
planes_put-all s planes some =
    torus_same s (λ q x y. if nat_lt q 4 then saved_bit planes q x y else false) (saved_bit planes)
    some
    (λ q x y h k l. ap (λ b. cond b (saved_bit planes q x y) false) (lt-ltb q 4 h))

-- what passes for all of a list passes for each
pub all_at : {A : Type 0} (P : A → Bool) (xs : List A) (i : ℕ) (d : A) → list_all P xs ≡ true →
    i < length xs → P (get_or xs i d) ≡ true
all_at P [] i d all within = absurd (omega (arith, within))
all_at P (x ∷ xs) zero d all within = (and_parts (P x) (list_all P xs) all).0
all_at P (x ∷ xs) (suc i) d all within =
    all_at P xs i d (and_parts (P x) (list_all P xs) all).1 (omega (arith, within))

-- a plane of four, and a row of it
pub plane_at : (s p : ℕ) (planes : List (List (List ℕ))) → are_planes s planes ≡ true → p < 4 →
    are_rows s (get_or planes p []) ≡ true
plane_at s p planes are within =
    let (four, all) = and_parts (length planes == 4) (list_all (are_rows s) planes) are in
    all_at (are_rows s) planes p [] all (omega (arith, within, eqb-true (length planes) 4 four))

pub rows_long : (s : ℕ) (rows : List (List ℕ)) → are_rows s rows ≡ true → length rows ≡ s
rows_long s rows are =
    eqb-true (length rows) s (and_parts (length rows == s) (list_all (is_row s) rows) are).0

pub row_wide : (s y : ℕ) (rows : List (List ℕ)) → are_rows s rows ≡ true → y < length rows →
    length (get_or rows y []) ≡ s / 8
row_wide s y rows are within =
    eqb-true (length (get_or rows y [])) (s / 8)
    (all_at (is_row s) rows y [] (and_parts (length rows == s) (list_all (is_row s) rows) are).1
    within)

-- a side is a number of whole bytes
pub eighths : (side : Side) → 8 * (side_number side / 8) ≡ side_number side
eighths side = omega (arith, side_words side)
