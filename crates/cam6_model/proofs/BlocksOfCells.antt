-- Where the cells of a block lie, on a torus of an even side, and the bits of a block's state.
use Rattle.std.proofs.Common.{◌≡◌, ◌≤◌, ◌<◌, ℕ, zero, suc, ◌+◌, ◌-◌, ◌%◌, refl, ◌∙◌, ap, arith}
use Rattle.std.proofs.Math.Nat.{mod-eq_of_lt, mod-lt, mod-add-mod, mod-mod_of_dvd, add-mod_right}
use Rattle.std.proofs.lemmas.Nat.Gcd.{dvd_of_mod-eq-zero}
use Rattle.cam6_planes.specs.Cells.{Cells}
use Rattle.cam6_planes.specs.Row.{bit_number}
use Rattle.cam6_wiring.specs.Block.{origin_of, side_in_block, block_of, corner_at, corner_of}
use Rattle.cam6_wiring.specs.Name.{plane_of}
use Rattle.cam6_wiring.specs.declared.blocks.Corner.{Corner}
use Rattle.cam6_wiring.specs.declared.blocks.Corner.TheVariants.{UpperLeft, UpperRight}
use Rattle.cam6_wiring.specs.declared.blocks.Corner.TheVariants.{LowerRight, LowerLeft}
use Rattle.cam6_wiring.specs.declared.blocks.Grid.{Grid}
use Rattle.cam6_wiring.specs.declared.names.Half.{Half}
use Rattle.cam6_wiring.specs.declared.names.Level.{Level}
use Rattle.cam6_block.specs.Blocks.{state_of, corner_bit, is_right, is_low}
use Rattle.cam6_block.proofs.States.{four, corner_bit-state_of, state_of-lt}
use Rattle.cam6_model.specs.Undoing.{column_at, row_at, block_state_at, corner_number}
use Rattle.cam6_model.specs.Undoing.{corner_in_block}

-- a number is as even as it is modulo an even side
even_mod : (s n : ℕ) → s % 2 ≡ 0 → n % s % 2 ≡ n % 2
even_mod s n even = mod-mod_of_dvd 2 n (dvd_of_mod-eq-zero 2 even)

-- on from where a block begins
on_from : (s o x b v a : ℕ) → 0 < s → s % 2 ≡ 0 → a < 2 → b % 2 ≡ (x + (s - (x + o) % 2)) % 2 →
    v % 2 ≡ (b + a) % 2 → (v + o) % 2 ≡ a
on_from s o x b v a some even h first later = omega (arith, some, even, h, first, later)

module _ (s : ℕ) (some : 0 < s) (even : s % 2 ≡ 0) (grid : Grid) where
  -- a block's first coordinate and the next lie on its first side and its second
  pub side_on : (x a : ℕ) → a < 2 → side_in_block grid ((block_of s grid x + a) % s) ≡ a
  side_on x a h =
      let b = block_of s grid x in
      on_from s (origin_of grid) x b ((b + a) % s) a some even h
      (even_mod s (x + (s - side_in_block grid x)) even) (even_mod s (b + a) even)

  -- and in that block
  pub block_on : (x a : ℕ) → a < 2 →
      block_of s grid ((block_of s grid x + a) % s) ≡ block_of s grid x
  block_on x a h =
      let b = block_of s grid x in
      let within : a ≤ s = omega (arith, h, some, even) in
      let whole : b + a + (s - a) ≡ b + s = omega (arith, within) in
      ap (λ n. ((b + a) % s + (s - n)) % s) (side_on x a h) ∙
      mod-add-mod (b + a) s (s - a) ∙
      ap (λ n. n % s) whole ∙ add-mod_right b s ∙
      mod-eq_of_lt (mod-lt (x + (s - side_in_block grid x)) some)

  -- a coordinate is as far on in its block as its side says
  pub own_side : (x : ℕ) → x < s → (block_of s grid x + side_in_block grid x) % s ≡ x
  own_side x within =
      let side = side_in_block grid x in
      let fits : side ≤ s = omega (arith, some) in
      let whole : x + (s - side) + side ≡ x + s = omega (arith, fits) in
      mod-add-mod (x + (s - side)) s side ∙ ap (λ n. n % s) whole ∙ add-mod_right x s ∙
      mod-eq_of_lt within

-- the sides on which a corner lies
pub right_of : (right low : ℕ) → right < 2 →
    bit_number (is_right (corner_number (corner_at right low))) ≡ right
right_of zero zero h = refl
right_of zero (suc low) h = refl
right_of (suc zero) zero h = refl
right_of (suc zero) (suc low) h = refl
right_of (suc (suc right)) low h = absurd (omega (arith, h))

pub low_of : (right low : ℕ) → low < 2 →
    bit_number (is_low (corner_number (corner_at right low))) ≡ low
low_of zero zero h = refl
low_of (suc right) zero h = refl
low_of zero (suc zero) h = refl
low_of (suc right) (suc zero) h = refl
low_of right (suc (suc low)) h = absurd (omega (arith, h))

pub corner_of_sides : (corner : ℕ) → corner < 4 →
    corner_number (corner_at (bit_number (is_right corner)) (bit_number (is_low corner))) ≡ corner
corner_of_sides =
    four (λ k.
    corner_number (corner_at (bit_number (is_right k)) (bit_number (is_low k))) ≡ k)
    refl refl refl refl

pub right_side : (corner : ℕ) → corner < 4 → bit_number (is_right corner) < 2
right_side =
    four (λ k. bit_number (is_right k) < 2)
    (omega arith) (omega arith) (omega arith) (omega arith)

pub low_side : (corner : ℕ) → corner < 4 → bit_number (is_low corner) < 2
low_side =
    four (λ k. bit_number (is_low k) < 2)
    (omega arith) (omega arith) (omega arith) (omega arith)

pub corner_number-lt : (corner : Corner) → corner_number corner < 4
corner_number-lt UpperLeft = omega arith
corner_number-lt UpperRight = omega arith
corner_number-lt LowerRight = omega arith
corner_number-lt LowerLeft = omega arith

module _ (s : ℕ) (f : Cells) (half : Half) (grid : Grid) where
  pub block_state_at-lt : (x y : ℕ) → block_state_at s f half grid x y < 256
  unfolding block_state_at
  block_state_at-lt x y =
      state_of-lt (λ level corner.
      f (plane_of half level) (column_at s grid x corner) (row_at s grid y corner))

  -- the bits of a block's state are those of its cells
  pub state_bit : (x y : ℕ) (level : Level) (corner : ℕ) → corner < 4 →
      corner_bit (block_state_at s f half grid x y) level corner
      ≡ f (plane_of half level) (column_at s grid x corner) (row_at s grid y corner)
  unfolding block_state_at
  state_bit x y level corner h =
      corner_bit-state_of (λ level corner.
      f (plane_of half level) (column_at s grid x corner) (row_at s grid y corner)) level corner h

  -- cells of one block have its state
  pub state_same : (x y u v : ℕ) → block_of s grid u ≡ block_of s grid x →
      block_of s grid v ≡ block_of s grid y →
      block_state_at s f half grid u v ≡ block_state_at s f half grid x y
  unfolding block_state_at
  state_same x y u v column row =
      ap (λ b. state_of (λ level corner.
      f (plane_of half level) ((b + bit_number (is_right corner)) % s) (row_at s grid v corner)))
      column ∙
      ap (λ b. state_of (λ level corner.
      f (plane_of half level) (column_at s grid x corner) ((b + bit_number (is_low corner)) % s)))
      row

  -- a cell's bit is that of its corner
  pub own_bit : 0 < s → s % 2 ≡ 0 → (x y : ℕ) (level : Level) → x < s → y < s →
      corner_bit (block_state_at s f half grid x y) level (corner_in_block grid x y)
      ≡ f (plane_of half level) x y
  own_bit some even x y level h k =
      let right = side_in_block grid x in
      let low = side_in_block grid y in
      let corner = corner_in_block grid x y in
      state_bit x y level corner (corner_number-lt (corner_of grid x y)) ∙
      ap (λ n. f (plane_of half level) ((block_of s grid x + n) % s) (row_at s grid y corner))
      (right_of right low (omega arith)) ∙
      ap (λ n. f (plane_of half level) ((block_of s grid x + right) % s)
      ((block_of s grid y + n) % s)) (low_of right low (omega arith)) ∙
      ap (λ n. f (plane_of half level) n ((block_of s grid y + low) % s))
      (own_side s some even grid x h) ∙
      ap (λ n. f (plane_of half level) x n) (own_side s some even grid y k)
