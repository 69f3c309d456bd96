-- Words that are 0 show no cell.
use Rattle.std.proofs.Common.{◌≡◌, ℕ, ◌-◌, ◌/◌, ◌%◌, ◌<◌, ◌∙◌, [], false, nat_eq, nat_lt}
use Rattle.std.proofs.Common.{get_or, set, length, ap, arith, replicate, ◌&&◌, Bool, true, refl}
use Rattle.std.proofs.Common.{List}
use Rattle.std.proofs.Common.{◌==◌, if◌then◌else◌}
use Rattle.std.proofs.lemmas.Grind.{common_steps}
use Rattle.std.proofs.lemmas.List.{get_or-replicate, get_or_past, length-replicate}
use Rattle.std.proofs.lemmas.Nat.Bits.{bit_at-zero}
use Rattle.std.proofs.Math.Path.{fun_ext}
use Rattle.std.specs.Int.{bit_at}
use native.Mathlib.Decide.{dec_lt}
use Rattle.cam6_planes.specs.Row.{word_column, column_bit}
use Rattle.cam6_planes.specs.Cells.{torus, stored_bit, no_cells, without_plane}
use Rattle.cam6_planes.specs.declared.row.TheConstants.{WORDS}
use Rattle.cam6_planes.proofs.CellsAt.{torus_same, torus_at}

-- no column of a row of n zero words is set
pub column_bit-zeros : (n x : ℕ) → column_bit (replicate n 0) x ≡ false
unfolding column_bit word_column
column_bit-zeros n x =
    let word : get_or (replicate n 0) (x / 64) 0 ≡ 0 =
    elim (dec_lt (x / 64) n) [
      | Prim.yes lt ↦ get_or-replicate n (x / 64) 0 0 lt
      | Prim.no ge ↦ get_or_past (replicate n 0) (x / 64) 0
          (omega (arith, length-replicate {A = ℕ} n 0))
    ] in
    ap (λ n. nat_eq n 1) (ap (λ w. bit_at w (63 - x % 64)) word ∙ bit_at-zero (63 - x % 64))

and_false : (b : Bool) → (b && false) ≡ false
and_false true = refl
and_false false = refl

-- stored rows that agree within the side show the same cells
pub rows-same : (s : ℕ) (rows others : List (List (List ℕ))) → 0 < s →
    ((y : ℕ) → y < s → get_or rows y [] ≡ get_or others y []) →
    torus s (stored_bit rows) ≡ torus s (stored_bit others)
rows-same s rows others some same =
    torus_same s (stored_bit rows) (stored_bit others) some
    (λ p x y h k l. ap (λ r. column_bit (get_or r p []) x) (same y l))

-- rows of four planes of n zero words
pub stored_bit-zeros : (s n : ℕ) (rows : List (List (List ℕ))) → 0 < s →
    ((y : ℕ) → y < s → get_or rows y [] ≡ replicate 4 (replicate n 0)) →
    torus s (stored_bit rows) ≡ no_cells
stored_bit-zeros s n rows some zeros =
    torus_same s (stored_bit rows) no_cells some
    (λ p x y h k l.
    ap (λ r. column_bit (get_or r p []) x) (zeros y l) ∙
    ap (λ r. column_bit r x) (get_or-replicate 4 p (replicate n 0) [] h) ∙ column_bit-zeros n x) ∙
    fun_ext (λ p. fun_ext (λ x. fun_ext (λ y. and_false (nat_lt p 4))))

-- the bits that are kept once all rows of plane p are cleared
stored_bit-cleared : (s : ℕ) (rows new : List (List (List ℕ))) (p q u v : ℕ) →
    get_or new v [] ≡ set (get_or rows v []) p (replicate WORDS 0) →
    length (get_or rows v []) ≡ 4 → p < 4 → q < 4 → u < s → v < s →
    stored_bit new q u v ≡ (if q == p then false else torus s (stored_bit rows) q u v)
stored_bit-cleared s rows new p q u v cleared four h l m n =
    let old : torus s (stored_bit rows) q u v ≡ stored_bit rows q u v =
    torus_at s (stored_bit rows) q u v l m n in
    let zeros : column_bit (replicate WORDS 0) u ≡ false = column_bit-zeros WORDS u in
    rw old (rw cleared (grind (arith, common_steps, zeros, four)))

-- the cells that are shown then
pub cells-cleared : (s : ℕ) (rows new : List (List (List ℕ))) (p : ℕ) → 0 < s → p < 4 →
    ((y : ℕ) → y < s → length (get_or rows y []) ≡ 4) →
    ((y : ℕ) → y < s → get_or new y [] ≡ set (get_or rows y []) p (replicate WORDS 0)) →
    torus s (stored_bit new) ≡ without_plane s (torus s (stored_bit rows)) p
cells-cleared s rows new p some h four cleared =
    torus_same s (stored_bit new)
    (λ q u v. if q == p then false else torus s (stored_bit rows) q u v) some
    (λ q u v l m n. stored_bit-cleared s rows new p q u v (cleared v n) (four v n) h l m n)
