-- Rotations round a block, by the sides of the block on which cells lie.
use Rattle.std.proofs.Common.{◌≡◌, ◌<◌, ℕ, zero, suc, ◌+◌, ◌-◌, ◌*◌, ◌%◌, ◌⊎◌, inl, inr, arith}
use Rattle.std.proofs.Common.{refl, ap, ◌∙◌, sym, subst}
use Rattle.std.proofs.Math.Nat.{add-mod_right, mod-add-mod, mod-mod_of_dvd, dvd-mul_right}
use Rattle.cam6_planes.specs.Row.{west_of, east_of}
use Rattle.cam6_planes.specs.Cells.{Cells}
use Rattle.cam6_wiring.specs.Block.{side_in_block, origin_of, block_of, corner_at, corner_of}
use Rattle.cam6_wiring.specs.Block.{in_block, rotated}
use Rattle.cam6_wiring.specs.Seen as seen
use Rattle.cam6_wiring.specs.declared.blocks.Grid.{Grid}
use Rattle.cam6_wiring.specs.declared.blocks.Corner.{Corner}
use Rattle.cam6_wiring.specs.declared.names.Rotation.{Rotation}
use Rattle.cam6_wiring.specs.declared.names.Rotation.TheVariants.{Clockwise, Opposite, CounterClockwise}

one_of_two : (n : ℕ) → n < 2 → (n ≡ 0) ⊎ (n ≡ 1)
one_of_two zero h = inl refl
one_of_two (suc zero) h = inr refl
one_of_two (suc (suc n)) h = absurd (omega (arith, h))

two_sides : (grid : Grid) (x : ℕ) → (side_in_block grid x ≡ 0) ⊎ (side_in_block grid x ≡ 1)
two_sides grid x = one_of_two (side_in_block grid x) (omega arith)

on : (n : ℕ) → n % 2 ≡ 0 → (n + 1) % 2 ≡ 1
on n h = omega (arith, h)

back : (k n : ℕ) → 0 < k → n % 2 ≡ 1 → (n + (2 * k - 1)) % 2 ≡ 0
back k n some h = omega (arith, some, h)

-- a coordinate that lies on this side, in the block of another
abbrev pub Moved : ℕ → Grid → ℕ → ℕ → ℕ → Type 0
Moved s grid old new side =
    (side_in_block grid new ≡ side) × (block_of s grid new ≡ block_of s grid old)

stays : (s : ℕ) (grid : Grid) (x side : ℕ) → side_in_block grid x ≡ side → Moved s grid x x side
stays s grid x side h = (h, refl)

-- and round the torus, whose side is even
wraps : (k : ℕ) (grid : Grid) (x z side : ℕ) → Moved (2 * k) grid x z side →
    Moved (2 * k) grid x (z % (2 * k)) side
wraps k grid x z side (there, same) =
    let even : z % (2 * k) % 2 ≡ z % 2 = mod-mod_of_dvd 2 z (dvd-mul_right 2 k) in
    let kept : side_in_block grid (z % (2 * k)) ≡ side_in_block grid z = omega (arith, even) in (
      kept ∙ there,
      ap (λ n. (z % (2 * k) + (2 * k - n)) % (2 * k)) kept
          ∙ mod-add-mod z (2 * k) (2 * k - side_in_block grid z) ∙ same,
    )

-- one on from a block's first side
goes_on : (k : ℕ) (grid : Grid) (x : ℕ) → 0 < k → side_in_block grid x ≡ 0 →
    Moved (2 * k) grid x (east_of (2 * k) x) 1
goes_on k grid x some h =
    let there : side_in_block grid (x + 1) ≡ 1 =
    ap (λ n. n % 2) (omega arith) ∙ on (x + origin_of grid) h in
    wraps k grid x (x + 1) 1 (
      there,
      ap (λ n. (x + 1 + (2 * k - n)) % (2 * k)) there
          ∙ ap (λ n. n % (2 * k)) (omega (arith, some))
          ∙ sym (ap (λ n. (x + (2 * k - n)) % (2 * k)) h),
    )

-- one back from its last
goes_back : (k : ℕ) (grid : Grid) (x : ℕ) → 0 < k → side_in_block grid x ≡ 1 →
    Moved (2 * k) grid x (west_of (2 * k) x) 0
goes_back k grid x some h =
    let there : side_in_block grid (x + (2 * k - 1)) ≡ 0 =
    ap (λ n. n % 2) (omega arith) ∙ back k (x + origin_of grid) some h in
    wraps k grid x (x + (2 * k - 1)) 0 (
      there,
      ap (λ n. (x + (2 * k - 1) + (2 * k - n)) % (2 * k)) there
          ∙ ap (λ n. (x + (2 * k - 1) + n) % (2 * k)) (omega arith)
          ∙ add-mod_right (x + (2 * k - 1)) (2 * k)
          ∙ sym (ap (λ n. (x + (2 * k - n)) % (2 * k)) h),
    )

seen_and : {A B C D : Type 0} → A → B × C × D → A × B × C × D
seen_and a rest = (a, rest.0, rest.1, rest.2)

module _ (k : ℕ) (f : Cells) (grid : Grid) (p x y : ℕ) (some : 0 < k) where
  -- what the law says of a cell at this corner
  abbrev pub Rotations : Corner → Rotation → Type 0
  Rotations corner rotation =
      let there = in_block corner rotation in
      let column = seen.column_beside (2 * k) there x in
      let row = seen.row_beside (2 * k) there y in
      (seen.seen_beside (2 * k) f there p x y ≡ f p column row) ×
      (corner_of grid column row ≡ rotated rotation corner) ×
      (block_of (2 * k) grid column ≡ block_of (2 * k) grid x) ×
      (block_of (2 * k) grid row ≡ block_of (2 * k) grid y)

  both : (column row right low : ℕ) → Moved (2 * k) grid x column right →
      Moved (2 * k) grid y row low →
      (corner_of grid column row ≡ corner_at right low) ×
      (block_of (2 * k) grid column ≡ block_of (2 * k) grid x) ×
      (block_of (2 * k) grid row ≡ block_of (2 * k) grid y)
  both column row right low h v = (
    ap (λ n. corner_at n (side_in_block grid row)) h.0 ∙ ap (corner_at right) v.0,
    h.1,
    v.1,
  )

  upper_left : side_in_block grid x ≡ 0 → side_in_block grid y ≡ 0 → (rotation : Rotation) →
      Rotations (corner_at 0 0) rotation
  upper_left h v Clockwise =
      seen_and refl (both _ _ 1 0 (goes_on k grid x some h) (stays _ grid y 0 v))
  upper_left h v Opposite =
      seen_and refl (both _ _ 1 1 (goes_on k grid x some h) (goes_on k grid y some v))
  upper_left h v CounterClockwise =
      seen_and refl (both _ _ 0 1 (stays _ grid x 0 h) (goes_on k grid y some v))

  upper_right : side_in_block grid x ≡ 1 → side_in_block grid y ≡ 0 → (rotation : Rotation) →
      Rotations (corner_at 1 0) rotation
  upper_right h v Clockwise =
      seen_and refl (both _ _ 1 1 (stays _ grid x 1 h) (goes_on k grid y some v))
  upper_right h v Opposite =
      seen_and refl (both _ _ 0 1 (goes_back k grid x some h) (goes_on k grid y some v))
  upper_right h v CounterClockwise =
      seen_and refl (both _ _ 0 0 (goes_back k grid x some h) (stays _ grid y 0 v))

  lower_right : side_in_block grid x ≡ 1 → side_in_block grid y ≡ 1 → (rotation : Rotation) →
      Rotations (corner_at 1 1) rotation
  lower_right h v Clockwise =
      seen_and refl (both _ _ 0 1 (goes_back k grid x some h) (stays _ grid y 1 v))
  lower_right h v Opposite =
      seen_and refl (both _ _ 0 0 (goes_back k grid x some h) (goes_back k grid y some v))
  lower_right h v CounterClockwise =
      seen_and refl (both _ _ 1 0 (stays _ grid x 1 h) (goes_back k grid y some v))

  lower_left : side_in_block grid x ≡ 0 → side_in_block grid y ≡ 1 → (rotation : Rotation) →
      Rotations (corner_at 0 1) rotation
  lower_left h v Clockwise =
      seen_and refl (both _ _ 0 0 (stays _ grid x 0 h) (goes_back k grid y some v))
  lower_left h v Opposite =
      seen_and refl (both _ _ 1 0 (goes_on k grid x some h) (goes_back k grid y some v))
  lower_left h v CounterClockwise =
      seen_and refl (both _ _ 1 1 (goes_on k grid x some h) (stays _ grid y 1 v))

  at : (right low : ℕ) → side_in_block grid x ≡ right → side_in_block grid y ≡ low → (rotation : Rotation) →
      Rotations (corner_at right low) rotation → Rotations (corner_of grid x y) rotation
  at right low h v rotation here =
      subst (λ corner. Rotations corner rotation)
      (sym (ap (λ n. corner_at n (side_in_block grid y)) h ∙ ap (corner_at right) v)) here

  rotations_by : (side_in_block grid x ≡ 0) ⊎ (side_in_block grid x ≡ 1) →
      (side_in_block grid y ≡ 0) ⊎ (side_in_block grid y ≡ 1) → (rotation : Rotation) →
      Rotations (corner_of grid x y) rotation
  rotations_by (inl h) (inl v) rotation = at 0 0 h v rotation (upper_left h v rotation)
  rotations_by (inr h) (inl v) rotation = at 1 0 h v rotation (upper_right h v rotation)
  rotations_by (inr h) (inr v) rotation = at 1 1 h v rotation (lower_right h v rotation)
  rotations_by (inl h) (inr v) rotation = at 0 1 h v rotation (lower_left h v rotation)

  pub rotations : (rotation : Rotation) → Rotations (corner_of grid x y) rotation
  rotations rotation = rotations_by (two_sides grid x) (two_sides grid y) rotation
