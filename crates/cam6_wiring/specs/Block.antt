-- A cell's corner of its block, and where the block's other cells lie from there.
--
--     UpperLeft  UpperRight      the even grid's blocks begin at even columns and rows,
--     LowerLeft  LowerRight      the odd grid's at odd ones
use Rattle.std.specs.Prelude.{ℕ, zero, suc, ◌+◌, ◌-◌, ◌%◌}
use Rattle.cam6_wiring.specs.declared.blocks.Grid.{Grid}
use Rattle.cam6_wiring.specs.declared.blocks.Grid.TheVariants.{Even, Odd}
use Rattle.cam6_wiring.specs.declared.blocks.Corner.{Corner}
use Rattle.cam6_wiring.specs.declared.blocks.Corner.TheVariants.{UpperLeft, UpperRight}
use Rattle.cam6_wiring.specs.declared.blocks.Corner.TheVariants.{LowerRight, LowerLeft}
use Rattle.cam6_wiring.specs.declared.names.Compass.{Compass}
use Rattle.cam6_wiring.specs.declared.names.Compass.TheVariants.{North, South, West, East}
use Rattle.cam6_wiring.specs.declared.names.Compass.TheVariants.{NorthWest, NorthEast}
use Rattle.cam6_wiring.specs.declared.names.Compass.TheVariants.{SouthWest, SouthEast}
use Rattle.cam6_wiring.specs.declared.names.Rotation.{Rotation}
use Rattle.cam6_wiring.specs.declared.names.Rotation.TheVariants.{Clockwise, Opposite, CounterClockwise}

-- the coordinate at which the first whole block of the grid begins
abbrev pub origin_of : Grid → ℕ
origin_of Even = 0
origin_of Odd = 1

-- 0 in a block's left column or upper row, and 1 in the other
abbrev pub side_in_block : Grid → ℕ → ℕ
side_in_block grid x = (x + origin_of grid) % 2

-- the corner by how far right and how far down it lies
abbrev pub corner_at : ℕ → ℕ → Corner
corner_at zero zero = UpperLeft
corner_at (suc right) zero = UpperRight
corner_at (suc right) (suc low) = LowerRight
corner_at zero (suc low) = LowerLeft

-- the corner in which the cell at column x of row y lies
abbrev pub corner_of : Grid → ℕ → ℕ → Corner
corner_of grid x y = corner_at (side_in_block grid x) (side_in_block grid y)

-- where the cell one, two or three corners further clockwise lies, seen from a corner
abbrev pub in_block : Corner → Rotation → Compass
in_block UpperLeft Clockwise = East
in_block UpperLeft Opposite = SouthEast
in_block UpperLeft CounterClockwise = South
in_block UpperRight Clockwise = South
in_block UpperRight Opposite = SouthWest
in_block UpperRight CounterClockwise = West
in_block LowerRight Clockwise = West
in_block LowerRight Opposite = NorthWest
in_block LowerRight CounterClockwise = North
in_block LowerLeft Clockwise = North
in_block LowerLeft Opposite = NorthEast
in_block LowerLeft CounterClockwise = East

-- the next corner clockwise
abbrev pub clockwise : Corner → Corner
clockwise UpperLeft = UpperRight
clockwise UpperRight = LowerRight
clockwise LowerRight = LowerLeft
clockwise LowerLeft = UpperLeft

-- the corner one, two or three corners further clockwise
abbrev pub rotated : Rotation → Corner → Corner
rotated Clockwise corner = clockwise corner
rotated Opposite corner = clockwise (clockwise corner)
rotated CounterClockwise corner = clockwise (clockwise (clockwise corner))

-- the coordinate at which the block of a column or a row begins
abbrev pub block_of : ℕ → Grid → ℕ → ℕ
block_of s grid x = (x + (s - side_in_block grid x)) % s
