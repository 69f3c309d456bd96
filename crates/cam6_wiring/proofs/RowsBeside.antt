-- Columns and rows beside a cell lie within the torus; and the two corners of a row.
use Rattle.std.proofs.Common.{◌≡◌, ℕ, ◌+◌, ◌-◌, ◌%◌, ◌<◌, ap, arith}
use Rattle.std.proofs.Math.Nat.{mod-lt}
use Rattle.cam6_wiring.specs.Block.{side_in_block, corner_at, corner_of}
use Rattle.cam6_wiring.specs.Seen.{column_beside, row_beside}
use Rattle.cam6_wiring.specs.declared.blocks.Grid.{Grid}
use Rattle.cam6_wiring.specs.declared.names.Compass.{Compass}
use Rattle.cam6_wiring.specs.declared.names.Compass.TheVariants.{Center, North, South, West}
use Rattle.cam6_wiring.specs.declared.names.Compass.TheVariants.{East, NorthWest, NorthEast}
use Rattle.cam6_wiring.specs.declared.names.Compass.TheVariants.{SouthWest, SouthEast}

west-lt : (s x : ℕ) → x < s → (x + (s - 1)) % s < s
west-lt s x h = mod-lt (x + (s - 1)) (omega (arith, h))

east-lt : (s x : ℕ) → x < s → (x + 1) % s < s
east-lt s x h = mod-lt (x + 1) (omega (arith, h))

pub column_beside-lt : (s : ℕ) (compass : Compass) (x : ℕ) → x < s → column_beside s compass x < s
column_beside-lt s Center x h = h
column_beside-lt s North x h = h
column_beside-lt s South x h = h
column_beside-lt s West x h = west-lt s x h
column_beside-lt s East x h = east-lt s x h
column_beside-lt s NorthWest x h = west-lt s x h
column_beside-lt s NorthEast x h = east-lt s x h
column_beside-lt s SouthWest x h = west-lt s x h
column_beside-lt s SouthEast x h = east-lt s x h

pub row_beside-lt : (s : ℕ) (compass : Compass) (y : ℕ) → y < s → row_beside s compass y < s
row_beside-lt s Center y h = h
row_beside-lt s West y h = h
row_beside-lt s East y h = h
row_beside-lt s North y h = west-lt s y h
row_beside-lt s South y h = east-lt s y h
row_beside-lt s NorthWest y h = west-lt s y h
row_beside-lt s NorthEast y h = west-lt s y h
row_beside-lt s SouthWest y h = east-lt s y h
row_beside-lt s SouthEast y h = east-lt s y h

-- columns that differ by an even number lie on the same side of their blocks
pub same_corner : (grid : Grid) (x u y : ℕ) → x % 2 ≡ u % 2 →
    corner_of grid u y ≡ corner_of grid x y
same_corner grid x u y e =
    let side : side_in_block grid u ≡ side_in_block grid x = omega (arith, e) in
    ap (λ right. corner_at right (side_in_block grid y)) side
