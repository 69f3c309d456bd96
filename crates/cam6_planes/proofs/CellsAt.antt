-- Within the side, coordinates stand for themselves.
use Rattle.std.proofs.Common.{◌≡◌, ◌≢◌, ℕ, ◌<◌, ◌%◌, ◌∙◌, sym, [], List, Bool, true, false, ◌&&◌}
use Rattle.std.proofs.Common.{nat_lt, get_or, set, length, ap}
use Rattle.std.proofs.Common.{refl, arith, if◌then◌else◌, ◌==◌, ◌⊎◌}
use Rattle.std.proofs.lemmas.Bool.{ltb-true, lt-ltb}
use Rattle.std.proofs.lemmas.Grind.{common_steps}
use Rattle.std.proofs.Math.Path.{fun_ext}
use Rattle.std.proofs.Math.Nat.{mod-eq_of_lt, mod-lt}
use Rattle.cam6_planes.specs.Row.{column_bit}
use Rattle.cam6_planes.specs.Side.{side_number}
use Rattle.cam6_planes.proofs.SideNumbers.{side_least}
use Rattle.cam6_planes.specs.Stored.{Stored}
use Rattle.cam6_planes.specs.Cells.{Cells, torus, cells, stored_bit, with_row, IsRow}

-- within the side, a torus has what its function says
pub torus_at : (s : ℕ) (f : Cells) (p x y : ℕ) → p < 4 → x < s → y < s → torus s f p x y ≡ f p x y
torus_at s f p x y h k l =
    ap (λ b. b && f p (x % s) (y % s)) (lt-ltb p 4 h) ∙ ap (λ u. f p u (y % s)) (mod-eq_of_lt k) ∙
    ap (f p x) (mod-eq_of_lt l)

-- values after a test, where they agree if it holds
guarded : (b c d : Bool) → (b ≡ true → c ≡ d) → (b && c) ≡ (b && d)
guarded true c d h = h refl
guarded false c d h = refl

-- tori whose functions agree within the side are the same
pub torus_same : (s : ℕ) (f g : Cells) → 0 < s →
    ((p x y : ℕ) → p < 4 → x < s → y < s → f p x y ≡ g p x y) → torus s f ≡ torus s g
torus_same s f g some h =
    fun_ext (λ p. fun_ext (λ x. fun_ext (λ y.
    guarded (nat_lt p 4) (f p (x % s) (y % s)) (g p (x % s) (y % s))
    (λ e. h p (x % s) (y % s) (ltb-true p 4 e) (mod-lt x some) (mod-lt y some)))))

-- within the side, planes show the bit that their words hold
pub cells_at : (v : Stored) (p x y : ℕ) → p < 4 → x < side_number v.side →
    y < side_number v.side → cells v p x y ≡ column_bit (get_or (get_or v.rows y []) p []) x
cells_at v = torus_at (side_number v.side) (stored_bit v.rows)

-- coordinates may be reduced first
pub cells_wrapped : (v : Stored) (p x y : ℕ) →
    cells v p (x % side_number v.side) (y % side_number v.side) ≡ cells v p x y
cells_wrapped v p x y =
    let s = side_number v.side in
    let h : 0 < s = omega (arith, side_least v.side) in
    ap (λ u. nat_lt p 4 && stored_bit v.rows p u (y % s % s)) (mod-eq_of_lt (mod-lt x h)) ∙
    ap (λ u. nat_lt p 4 && stored_bit v.rows p (x % s) u) (mod-eq_of_lt (mod-lt y h))

-- the bits that are kept once row y of plane p is written
stored_bit-set : (s : ℕ) (rows : List (List (List ℕ))) (p y : ℕ) (w : List ℕ) (q u v : ℕ) →
    y < length rows → p < length (get_or rows y []) → q < 4 → u < s → v < s →
    stored_bit (set rows y (set (get_or rows y []) p w)) q u v
    ≡ (if (q == p) && (v == y) then column_bit w u else torus s (stored_bit rows) q u v)
stored_bit-set s rows p y w q u v h k l m n =
    let old : torus s (stored_bit rows) q u v ≡ stored_bit rows q u v =
    torus_at s (stored_bit rows) q u v l m n in
    rw old (grind (arith, common_steps))

-- the cells that are shown then
pub cells-set : (s : ℕ) (rows : List (List (List ℕ))) (p y : ℕ) (w : List ℕ) → 0 < s →
    y < length rows → p < length (get_or rows y []) →
    torus s (stored_bit (set rows y (set (get_or rows y []) p w)))
    ≡ with_row s (torus s (stored_bit rows)) p y (column_bit w)
cells-set s rows p y w some h k =
    torus_same s (stored_bit (set rows y (set (get_or rows y []) p w)))
    (λ q u v. if (q == p) && (v == y) then column_bit w u
    else torus s (stored_bit rows) q u v) some
    (λ q u v l m n. stored_bit-set s rows p y w q u v h k l m n)

-- cells with a row depend on that row's columns alone
pub with_row-same : (s : ℕ) (f : Cells) (p y : ℕ) (row other : ℕ → Bool) → 0 < s →
    ((x : ℕ) → x < s → row x ≡ other x) → with_row s f p y row ≡ with_row s f p y other
with_row-same s f p y row other some h =
    torus_same s (λ q u v. if (q == p) && (v == y) then row u else f q u v)
    (λ q u v. if (q == p) && (v == y) then other u else f q u v) some
    (λ q u v l m n. ap (λ b. if (q == p) && (v == y) then b else f q u v) (h u m))

-- a stored row shows what the planes show there
pub row_of_stored : (v : Stored) (y : ℕ) → y < side_number v.side →
    IsRow (side_number v.side) (cells v) y (get_or v.rows y [])
row_of_stored v y h p x k l = sym (cells_at v p x y k l h)

-- the row that is written is there
pub with_row-here : (s : ℕ) (f : Cells) (p y : ℕ) (row : ℕ → Bool) (x : ℕ) → p < 4 → x < s →
    y < s → with_row s f p y row p x y ≡ row x
with_row-here s f p y row x h k l =
    torus_at s (λ q u v. if (q == p) && (v == y) then row u else f q u v) p x y h k l ∙
    grind (arith, common_steps)

-- another plane's row, or another row, stays
pub with_row-elsewhere : (s : ℕ) (f : Cells) (p y : ℕ) (row : ℕ → Bool) (q x v : ℕ) → q < 4 →
    x < s → v < s → (q ≢ p) ⊎ (v ≢ y) → with_row s f p y row q x v ≡ f q x v
with_row-elsewhere s f p y row q x v h k l other =
    torus_at s (λ q u v. if (q == p) && (v == y) then row u else f q u v) q x v h k l ∙
    grind (arith, common_steps, other)

-- a torus that is wrapped once more stays the same
pub torus_again : (s : ℕ) (f : Cells) → 0 < s → torus s (torus s f) ≡ torus s f
torus_again s f some =
    torus_same s (torus s f) f some (λ p x y h k l. torus_at s f p x y h k l)
