-- What a cell sees in its block is what its corner sees in the block's state.
use Rattle.std.proofs.Common.{◌≡◌, ◌<◌, ℕ, zero, suc, ◌+◌, ◌*◌, ◌/◌, ◌%◌, ◌==◌, refl, sym, subst}
use Rattle.std.proofs.Common.{◌∙◌, ap, arith}
use Rattle.std.proofs.Math.Nat.{mod-lt}
use Rattle.cam6_planes.specs.Cells.{Cells}
use Rattle.cam6_wiring.specs.Block.{side_in_block, block_of, corner_at, corner_of, in_block}
use Rattle.cam6_wiring.specs.Block.{rotated}
use Rattle.cam6_wiring.specs.Name.{plane_of}
use Rattle.cam6_wiring.specs.Seen.{seen, column_beside, row_beside}
use Rattle.cam6_wiring.specs.declared.blocks.Corner.{Corner}
use Rattle.cam6_wiring.specs.declared.blocks.Corner.TheVariants.{UpperLeft, UpperRight}
use Rattle.cam6_wiring.specs.declared.blocks.Corner.TheVariants.{LowerRight, LowerLeft}
use Rattle.cam6_wiring.specs.declared.blocks.Grid.{Grid}
use Rattle.cam6_wiring.specs.declared.names.Compass.{Compass}
use Rattle.cam6_wiring.specs.declared.names.Compass.TheVariants.{Center, North, South, West}
use Rattle.cam6_wiring.specs.declared.names.Compass.TheVariants.{East, NorthWest, NorthEast}
use Rattle.cam6_wiring.specs.declared.names.Compass.TheVariants.{SouthWest, SouthEast}
use Rattle.cam6_wiring.specs.declared.names.Half.{Half}
use Rattle.cam6_wiring.specs.declared.names.Level.{Level}
use Rattle.cam6_wiring.specs.declared.names.Rotation.{Rotation}
use Rattle.cam6_wiring.specs.declared.names.Rotation.TheVariants.{Clockwise, Opposite}
use Rattle.cam6_wiring.specs.declared.names.Rotation.TheVariants.{CounterClockwise}
use Rattle.cam6_wiring.specs.declared.neighbours.Setting.{Setting}
use Rattle.cam6_wiring.proofs.Rotating.{rotations}
use Rattle.cam6_block.specs.Blocks.{corner_bit, corners_on, corner_sees, is_right, is_low}
use Rattle.cam6_block.proofs.States.{corner_bit-mod}
use Rattle.cam6_model.specs.Undoing.{block_state_at, corner_number, corner_in_block}
use Rattle.cam6_model.proofs.BlocksOfCells.{state_same, own_bit}
use Rattle.cam6_model.proofs.AddressesOfBlocks.{Agrees}

-- the right column and the lower row
right_is : (right low : ℕ) → right < 2 →
    (right == 1) ≡ is_right (corner_number (corner_at right low))
right_is zero zero h = refl
right_is zero (suc low) h = refl
right_is (suc zero) zero h = refl
right_is (suc zero) (suc low) h = refl
right_is (suc (suc right)) low h = absurd (omega (arith, h))

low_is : (right low : ℕ) → low < 2 → (low == 1) ≡ is_low (corner_number (corner_at right low))
low_is zero zero h = refl
low_is (suc right) zero h = refl
low_is zero (suc zero) h = refl
low_is (suc right) (suc zero) h = refl
low_is right (suc (suc low)) h = absurd (omega (arith, h))

-- a rotated corner is so many corners further on, counted round and round
rotated_corner : (rotation : Rotation) (corner : Corner) →
    corner_number (rotated rotation corner) % 4 ≡ (corner_number corner + corners_on rotation) % 4
rotated_corner Clockwise UpperLeft = refl
rotated_corner Clockwise UpperRight = refl
rotated_corner Clockwise LowerRight = refl
rotated_corner Clockwise LowerLeft = refl
rotated_corner Opposite UpperLeft = refl
rotated_corner Opposite UpperRight = refl
rotated_corner Opposite LowerRight = refl
rotated_corner Opposite LowerLeft = refl
rotated_corner CounterClockwise UpperLeft = refl
rotated_corner CounterClockwise UpperRight = refl
rotated_corner CounterClockwise LowerRight = refl
rotated_corner CounterClockwise LowerLeft = refl

-- a neighbour lies on the torus
column_within : (s x : ℕ) (compass : Compass) → x < s → column_beside s compass x < s
column_within s x Center h = h
column_within s x North h = h
column_within s x South h = h
column_within s x West h = mod-lt _ (omega (arith, h))
column_within s x East h = mod-lt _ (omega (arith, h))
column_within s x NorthWest h = mod-lt _ (omega (arith, h))
column_within s x NorthEast h = mod-lt _ (omega (arith, h))
column_within s x SouthWest h = mod-lt _ (omega (arith, h))
column_within s x SouthEast h = mod-lt _ (omega (arith, h))

row_within : (s y : ℕ) (compass : Compass) → y < s → row_beside s compass y < s
row_within s y Center h = h
row_within s y West h = h
row_within s y East h = h
row_within s y North h = mod-lt _ (omega (arith, h))
row_within s y South h = mod-lt _ (omega (arith, h))
row_within s y NorthWest h = mod-lt _ (omega (arith, h))
row_within s y NorthEast h = mod-lt _ (omega (arith, h))
row_within s y SouthWest h = mod-lt _ (omega (arith, h))
row_within s y SouthEast h = mod-lt _ (omega (arith, h))

-- where a rotation leads, on a torus of any even side
abbrev Rotations : ℕ → Cells → Grid → Rotation → ℕ → ℕ → ℕ → Type 0
Rotations s f grid rotation p x y =
    let there = in_block (corner_of grid x y) rotation in
    let column = column_beside s there x in
    let row = row_beside s there y in
    (f p column row ≡ f p column row) ×
    (corner_of grid column row ≡ rotated rotation (corner_of grid x y)) ×
    (block_of s grid column ≡ block_of s grid x) × (block_of s grid row ≡ block_of s grid y)

rotations_at : (s : ℕ) (f : Cells) (grid : Grid) (rotation : Rotation) (p x y : ℕ) → 0 < s → s % 2 ≡ 0 →
    Rotations s f grid rotation p x y
rotations_at s f grid rotation p x y some even =
    let twice : 2 * (s / 2) ≡ s = omega (arith, even) in
    subst (λ n. Rotations n f grid rotation p x y) twice
    (rotations (s / 2) f grid p x y (omega (arith, some, even)) rotation)

-- where a rotation leads lies the cell of that corner
in_its_block : (s : ℕ) (f : Cells) (half : Half) (grid : Grid) (x y : ℕ) (rotation : Rotation)
    (level : Level) → 0 < s → s % 2 ≡ 0 → x < s → y < s →
    let there = in_block (corner_of grid x y) rotation in
    f (plane_of half level) (column_beside s there x) (row_beside s there y)
    ≡ corner_bit (block_state_at s f half grid x y) level (corner_in_block grid x y + corners_on rotation)
in_its_block s f half grid x y rotation level some even h k =
    let there = in_block (corner_of grid x y) rotation in
    let column = column_beside s there x in
    let row = row_beside s there y in
    let state = block_state_at s f half grid x y in
    let led = rotations_at s f grid rotation (plane_of half level) x y some even in
    sym (own_bit s f half grid some even column row level (column_within s x there h)
    (row_within s y there k)) ∙
    ap (λ state. corner_bit state level (corner_in_block grid column row))
    (state_same s f half grid x y column row led.2 led.3) ∙
    ap (λ c. corner_bit state level (corner_number c)) led.1 ∙
    corner_bit-mod state level (corner_number (rotated rotation (corner_of grid x y)))
    (corner_in_block grid x y + corners_on rotation) (rotated_corner rotation (corner_of grid x y))

-- what a cell sees in its block, its corner sees in the block's state
pub sees_block : (s : ℕ) (f : Cells) (setting : Setting) (x y : ℕ) → 0 < s → s % 2 ≡ 0 → x < s →
    y < s →
    Agrees (λ name. seen s f setting name x y)
    (corner_sees setting.phase (block_state_at s f setting.half setting.grid x y)
    (corner_in_block setting.grid x y))
sees_block s f setting x y some even h k =
    let grid = setting.grid in
    let right = side_in_block grid x in
    let low = side_in_block grid y in
    let horz = right_is right low (omega arith) in
    let vert = low_is right low (omega arith) in
    record {
      centre = λ level. sym (own_bit s f setting.half grid some even x y level h k);
      inside = λ rotation level. in_its_block s f setting.half grid x y rotation level some even h k;
      phase = λ level. refl;
      horz = horz;
      vert = vert;
      minor_phase = λ level. refl;
      minor_horz = horz;
      minor_vert = vert;
    }
