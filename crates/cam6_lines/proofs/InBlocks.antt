-- What cells see in their blocks, by the two rows in which the blocks lie.
use Rattle.std.proofs.Common.{◌≡◌, ℕ, zero, suc, ◌+◌, ◌*◌, ◌<◌, ◌==◌, if◌then◌else◌, not}
use Rattle.std.proofs.Common.{Bool, List, sym, subst, ◌∙◌, ap, arith}
use Rattle.cam6_planes.specs.declared.sides.Side.{Side}
use Rattle.cam6_planes.specs.Cells.{Cells, torus}
use Rattle.cam6_planes.specs.Row.{column_bit, west_of, east_of}
use Rattle.cam6_planes.specs.Side.{side_number}
use Rattle.cam6_planes.proofs.CellsAt.{torus_at}
use Rattle.cam6_wiring.specs.Block.{side_in_block, origin_of, corner_at, in_block}
use Rattle.cam6_wiring.specs.Seen.{seen_beside, seen_in_block}
use Rattle.cam6_wiring.specs.declared.blocks.Grid.{Grid}
use Rattle.cam6_wiring.specs.declared.names.Compass.TheVariants.{North, South, West, East}
use Rattle.cam6_wiring.specs.declared.names.Rotation.{Rotation}
use Rattle.cam6_wiring.specs.declared.names.Rotation.TheVariants.{Clockwise, Opposite}
use Rattle.cam6_wiring.specs.declared.names.Rotation.TheVariants.{CounterClockwise}
use Rattle.cam6_wiring.proofs.RowsBeside.{column_beside-lt, row_beside-lt}
use Rattle.cam6_lines.specs.Units.{columns}
use Rattle.cam6_lines.proofs.RowsOfUnits.{same_parity, unit_within}

-- what a cell on side u of its block, in the lower row or the upper one, sees in its own row and in
-- the other one
abbrev pub turned : Rotation → ℕ → Bool → List ℕ → List ℕ → ℕ → ℕ → Bool
turned Clockwise u lower here other s x =
    if u == 1 then (if not lower then column_bit other x else column_bit here (west_of s x))
    else (if not lower then column_bit here (east_of s x) else column_bit other x)
turned Opposite u lower here other s x =
    if u == 1 then column_bit other (west_of s x) else column_bit other (east_of s x)
turned CounterClockwise u lower here other s x =
    if u == 1 then (if lower then column_bit other x else column_bit here (west_of s x))
    else (if lower then column_bit here (east_of s x) else column_bit other x)

-- a row of plane p
abbrev pub IsOf : ℕ → Cells → ℕ → ℕ → List ℕ → Type 0
IsOf s f p y row = (x : ℕ) → x < s → column_bit row x ≡ f p x y

-- the other row of the blocks of which a row is the lower or the upper one
abbrev pub across : ℕ → Bool → ℕ → ℕ
across s lower y = if lower then west_of s y else east_of s y

module _ (s : ℕ) (f : Cells) (p x y : ℕ) (plane : p < 4) (column : x < s) (row : y < s) where
  at : (z w : ℕ) → z < s → w < s → f p z w ≡ torus s f p z w
  at z w h k = sym (torus_at s f p z w plane h k)

  west : west_of s x < s
  west = column_beside-lt s West x column

  east : east_of s x < s
  east = column_beside-lt s East x column

  north : west_of s y < s
  north = row_beside-lt s North y row

  south : east_of s y < s
  south = row_beside-lt s South y row

  corner_seen : (here other : List ℕ) (rotation : Rotation) (u v : ℕ) → u < 2 → v < 2 →
      IsOf s f p y here → IsOf s f p (across s (v == 1) y) other →
      turned rotation u (v == 1) here other s x
      ≡ seen_beside s (torus s f) (in_block (corner_at u v) rotation) p x y
  corner_seen b d Clockwise zero zero h k a o = a _ east ∙ at _ _ east row
  corner_seen b d Clockwise (suc zero) zero h k a o = o _ column ∙ at _ _ column south
  corner_seen b d Clockwise (suc zero) (suc zero) h k a o = a _ west ∙ at _ _ west row
  corner_seen b d Clockwise zero (suc zero) h k a o = o _ column ∙ at _ _ column north
  corner_seen b d Opposite zero zero h k a o = o _ east ∙ at _ _ east south
  corner_seen b d Opposite (suc zero) zero h k a o = o _ west ∙ at _ _ west south
  corner_seen b d Opposite (suc zero) (suc zero) h k a o = o _ west ∙ at _ _ west north
  corner_seen b d Opposite zero (suc zero) h k a o = o _ east ∙ at _ _ east north
  corner_seen b d CounterClockwise zero zero h k a o = o _ column ∙ at _ _ column south
  corner_seen b d CounterClockwise (suc zero) zero h k a o = a _ west ∙ at _ _ west row
  corner_seen b d CounterClockwise (suc zero) (suc zero) h k a o = o _ column ∙ at _ _ column north
  corner_seen b d CounterClockwise zero (suc zero) h k a o = a _ east ∙ at _ _ east row
  corner_seen b d rotation (suc (suc u)) v h k a o = absurd (omega (arith, h))
  corner_seen b d rotation u (suc (suc v)) h k a o = absurd (omega (arith, k))

-- a unit that shows this shows what its cells see in their blocks
pub block_shown : (side given : Side) (f : Cells) (grid : Grid) (asked rotation : Rotation)
    (p unit y : ℕ) (lower : Bool) (here other made : List ℕ) → given ≡ side →
    asked ≡ rotation → p < 4 → columns side * unit < side_number side →
    y < side_number side → lower ≡ (side_in_block grid y == 1) →
    IsOf (side_number side) f p y here →
    IsOf (side_number side) f p (across (side_number side) lower y) other →
    ((i : ℕ) → i < columns given → column_bit made i
    ≡ turned rotation (side_in_block grid i) lower here other (side_number given)
    (columns given * unit + i)) →
    (i : ℕ) → i < columns side → column_bit made i
    ≡ seen_in_block (side_number side) (torus (side_number side) f) grid asked p
    (columns side * unit + i) y
block_shown side given f grid asked rotation p unit y lower here other made e turn plane within row
    low a o is i h =
    let s = side_number side in
    let x : ℕ = columns side * unit + i in
    subst (λ k. (i : ℕ) → i < columns k → column_bit made i
    ≡ turned rotation (side_in_block grid i) lower here other (side_number k)
    (columns k * unit + i)) e is i h ∙
    ap (λ b. turned rotation (side_in_block grid i) b here other s x) low ∙
    corner_seen s f p x y plane (unit_within side unit i within h) row here other rotation
    (side_in_block grid i) (side_in_block grid y) (omega arith) (omega arith) a
    (subst (λ b. IsOf s f p (across s b y) other) low o) ∙
    ap (λ u. seen_beside s (torus s f) (in_block (corner_at u (side_in_block grid y)) rotation)
    p x y)
    (sym (same_parity side unit i (origin_of grid))) ∙
    ap (λ r. seen_in_block s (torus s f) grid r p x y) (sym turn)
