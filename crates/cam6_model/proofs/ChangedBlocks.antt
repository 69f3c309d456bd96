-- Planes whose blocks are changed, and what undoes a change of blocks.
use Rattle.std.proofs.Common.{◌≡◌, ◌<◌, ℕ, ◌%◌, Bool, Option, Some, None, refl, ◌∙◌, ap}
use Rattle.std.proofs.Math.Nat.{mod-lt}
use Rattle.cam6_planes.specs.Cells.{Cells, torus}
use Rattle.cam6_planes.specs.Row.{bit_number}
use Rattle.cam6_planes.proofs.CellsAt.{torus_at, torus_same}
use Rattle.cam6_wiring.specs.Block.{side_in_block, corner_at}
use Rattle.cam6_wiring.specs.Name.{plane_of, on_plane}
use Rattle.cam6_wiring.specs.declared.blocks.Grid.{Grid}
use Rattle.cam6_wiring.specs.declared.names.Half.{Half}
use Rattle.cam6_wiring.specs.declared.names.Half.TheVariants.{A, B}
use Rattle.cam6_wiring.specs.declared.names.Level.{Level}
use Rattle.cam6_wiring.specs.declared.names.Level.TheVariants.{Lower, Upper}
use Rattle.cam6_block.specs.Blocks.{corner_bit, is_right, is_low}
use Rattle.cam6_block.proofs.States.{four, same_state}
use Rattle.cam6_model.specs.Undoing.{column_at, row_at, block_state_at, corner_number}
use Rattle.cam6_model.specs.Undoing.{corner_in_block, changed_cell, blockwise}
use Rattle.cam6_model.proofs.BlocksOfCells.{side_on, block_on, corner_of_sides, right_side}
use Rattle.cam6_model.proofs.BlocksOfCells.{low_side, block_state_at-lt, state_bit, state_same}
use Rattle.cam6_model.proofs.BlocksOfCells.{own_bit}
use Rattle.cam6_model.proofs.StepLaws.{plane_of-lt, on_plane-of}

-- what holds for each plane of each half holds for all planes
pub on_each_plane : (bit : Half → Level → Bool) (plane : ℕ → Bool) →
    ((half : Half) (level : Level) → bit half level ≡ plane (plane_of half level)) → (p : ℕ) →
    p < 4 → on_plane p bit ≡ plane p
on_each_plane bit plane same =
    four (λ p. on_plane p bit ≡ plane p)
    (same A Lower) (same A Upper) (same B Lower) (same B Upper)

-- the second change undoes the first, on states
abbrev pub IsUndone : Option (ℕ → ℕ) → Option (ℕ → ℕ) → Type 0
IsUndone None None = Unit {0}
IsUndone (Some first) (Some second) =
    ((state : ℕ) → state < 256 → first state < 256) ×
    ((state : ℕ) → state < 256 → second (first state) ≡ state)
IsUndone None (Some second) = ⊥
IsUndone (Some first) None = ⊥

module _ (s : ℕ) (some : 0 < s) (even : s % 2 ≡ 0) (grid : Grid) where
  -- the cell at a corner of a block has this corner
  corner_there : (x y corner : ℕ) → corner < 4 →
      corner_in_block grid (column_at s grid x corner) (row_at s grid y corner) ≡ corner
  corner_there x y corner h =
      let right = bit_number (is_right corner) in
      let low = bit_number (is_low corner) in
      ap (λ n. corner_number (corner_at n (side_in_block grid (row_at s grid y corner))))
      (side_on s some even grid x right (right_side corner h)) ∙
      ap (λ n. corner_number (corner_at right n))
      (side_on s some even grid y low (low_side corner h)) ∙
      corner_of_sides corner h

  -- changed planes, cell by cell
  changed_at : (changes : Half → Option (ℕ → ℕ)) (f : Cells) (half : Half) (level : Level)
      (x y : ℕ) → x < s → y < s →
      blockwise s grid changes f (plane_of half level) x y
      ≡ changed_cell s f grid half (changes half) level x y
  unfolding blockwise
  changed_at changes f half level x y h k =
      torus_at s (λ p x y. on_plane p (λ half level.
      changed_cell s f grid half (changes half) level x y)) (plane_of half level) x y
      (plane_of-lt half level) h k ∙
      on_plane-of half level (λ half level.
      changed_cell s f grid half (changes half) level x y)

  -- the blocks of changed planes are the changed blocks
  pub block_changed : (changes : Half → Option (ℕ → ℕ)) (f : Cells) (half : Half)
      (change : ℕ → ℕ) (x y : ℕ) → changes half ≡ Some change →
      ((state : ℕ) → state < 256 → change state < 256) →
      block_state_at s (blockwise s grid changes f) half grid x y ≡ change (block_state_at s f half grid x y)
  block_changed changes f half change x y is bound =
      let new = blockwise s grid changes f in
      let old = block_state_at s f half grid x y in
      same_state (block_state_at s new half grid x y) (change old) (block_state_at-lt s new half grid x y)
      (bound old (block_state_at-lt s f half grid x y)) (λ level corner h.
      let u = column_at s grid x corner in
      let v = row_at s grid y corner in
      state_bit s new half grid x y level corner h ∙
      changed_at changes f half level u v (mod-lt _ some) (mod-lt _ some) ∙
      ap (λ c. changed_cell s f grid half c level u v) is ∙
      ap (λ state. corner_bit (change state) level (corner_in_block grid u v))
      (state_same s f half grid x y u v
      (block_on s some even grid x (bit_number (is_right corner)) (right_side corner h))
      (block_on s some even grid y (bit_number (is_low corner)) (low_side corner h))) ∙
      ap (corner_bit (change old) level) (corner_there x y corner h))

  cell_back : (first second : Half → Option (ℕ → ℕ)) (f : Cells) (half : Half) (level : Level)
      (x y : ℕ) (there back : Option (ℕ → ℕ)) → first half ≡ there → IsUndone there back →
      x < s → y < s →
      changed_cell s (blockwise s grid first f) grid half back level x y
      ≡ f (plane_of half level) x y
  cell_back first second f half level x y None None is undone h k =
      changed_at first f half level x y h k ∙
      ap (λ c. changed_cell s f grid half c level x y) is
  cell_back first second f half level x y (Some there) (Some back) is undone h k =
      let corner = corner_in_block grid x y in
      ap (λ state. corner_bit (back state) level corner)
      (block_changed first f half there x y is undone.0) ∙
      ap (λ state. corner_bit state level corner)
      (undone.1 (block_state_at s f half grid x y) (block_state_at-lt s f half grid x y)) ∙
      own_bit s f half grid some even x y level h k
  cell_back first second f half level x y None (Some back) is undone h k = absurd undone
  cell_back first second f half level x y (Some there) None is undone h k = absurd undone

  -- a change of blocks is undone by what undoes it on states
  pub changed_back : (first second : Half → Option (ℕ → ℕ)) (f : Cells) → torus s f ≡ f →
      ((half : Half) → IsUndone (first half) (second half)) →
      blockwise s grid second (blockwise s grid first f) ≡ f
  unfolding blockwise
  changed_back first second f whole each =
      torus_same s (λ p x y. on_plane p (λ half level.
      changed_cell s (blockwise s grid first f) grid half (second half) level x y)) f some
      (λ p x y g h k.
      on_each_plane (λ half level.
      changed_cell s (blockwise s grid first f) grid half (second half) level x y)
      (λ q. f q x y)
      (λ half level. cell_back first second f half level x y (first half) (second half) refl
      (each half) h k) p g) ∙
      whole
