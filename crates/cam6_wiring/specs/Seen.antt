-- What a cell sees, and the address that it shows, on planes f that are a torus of side s.
use Rattle.std.specs.Prelude.{ℕ, ◌+◌, ◌*◌, ◌==◌, Bool, false}
use Rattle.std.specs.Prelude.{List, [], ◌∷◌, map, Option, Some, None}
use Rattle.std.specs.Int.{bit_at}
use Rattle.cam6_planes.specs.Row.{bit_number, west_of, east_of}
use Rattle.cam6_planes.specs.Cells.{Cells}
use Rattle.cam6_wiring.specs.Block.{corner_of, in_block, side_in_block}
use Rattle.cam6_wiring.specs.Name.{plane_of, other_half, phase_bit}
use Rattle.cam6_wiring.specs.Wiring.{names_of, line_of}
use Rattle.cam6_wiring.specs.declared.names.Name.{Name}
use Rattle.cam6_wiring.specs.declared.names.Name.TheVariants as name
use Rattle.cam6_wiring.specs.declared.neighbours.Setting.{Setting}
use Rattle.cam6_wiring.specs.declared.blocks.Grid.{Grid}
use Rattle.cam6_wiring.specs.declared.wirings.Hood.{Hood}
use Rattle.cam6_wiring.specs.declared.wirings.Minor.{Minor}
use Rattle.cam6_wiring.specs.declared.names.Compass.{Compass}
use Rattle.cam6_wiring.specs.declared.names.Compass.TheVariants.{Center, North, South, West}
use Rattle.cam6_wiring.specs.declared.names.Compass.TheVariants.{East, NorthWest, NorthEast}
use Rattle.cam6_wiring.specs.declared.names.Compass.TheVariants.{SouthWest, SouthEast}
use Rattle.cam6_wiring.specs.declared.names.Rotation.{Rotation}

-- the column of the cell that lies there, seen from column x
abbrev pub column_beside : ℕ → Compass → ℕ → ℕ
column_beside s Center x = x
column_beside s North x = x
column_beside s South x = x
column_beside s West x = west_of s x
column_beside s East x = east_of s x
column_beside s NorthWest x = west_of s x
column_beside s NorthEast x = east_of s x
column_beside s SouthWest x = west_of s x
column_beside s SouthEast x = east_of s x

-- and its row, seen from row y: north is the row before, as west is the column before
abbrev pub row_beside : ℕ → Compass → ℕ → ℕ
row_beside s Center y = y
row_beside s North y = west_of s y
row_beside s South y = east_of s y
row_beside s West y = y
row_beside s East y = y
row_beside s NorthWest y = west_of s y
row_beside s NorthEast y = west_of s y
row_beside s SouthWest y = east_of s y
row_beside s SouthEast y = east_of s y

-- the bit of plane p that the cell at column x of row y sees beside it
abbrev pub seen_beside : ℕ → Cells → Compass → Cells
seen_beside s f compass p x y = f p (column_beside s compass x) (row_beside s compass y)

-- the bit of plane p that it sees in its block
abbrev pub seen_in_block : ℕ → Cells → Grid → Rotation → Cells
seen_in_block s f grid rotation p x y = seen_beside s f (in_block (corner_of grid x y) rotation) p x y

-- the bit that a name means to the cell at column x of row y
abbrev pub seen : ℕ → Cells → Setting → Name → ℕ → ℕ → Bool
seen s f setting (name.Beside compass level) x y =
    seen_beside s f compass (plane_of setting.half level) x y
seen s f setting (name.InBlock rotation level) x y =
    seen_in_block s f setting.grid rotation (plane_of setting.half level) x y
seen s f setting (name.Phase level) x y = phase_bit setting.phase level
seen s f setting name.Horz x y = side_in_block setting.grid x == 1
seen s f setting name.Vert x y = side_in_block setting.grid y == 1
seen s f setting (name.MinorCenter level) x y = f (plane_of (other_half setting.half) level) x y
seen s f setting (name.MinorPhase level) x y = phase_bit setting.phase level
seen s f setting name.MinorHorz x y = side_in_block setting.grid x == 1
seen s f setting name.MinorVert x y = side_in_block setting.grid y == 1

-- the number with these bits, the lowest first
abbrev pub number_of : List Bool → ℕ
number_of [] = 0
number_of (b ∷ bits) = 2 * number_of bits + bit_number b

-- the bits that names mean, whatever they are read from
abbrev pub Sees : Type 0
Sees = Name → Bool

-- what a line shows: 0 without a name
abbrev pub line_shows : Sees → Option Name → Bool
line_shows sees None = false
line_shows sees (Some name) = sees name

-- the address of what is seen: bit i is what is seen under line i's name
unfoldable pub address_of : Hood → Minor → Sees → ℕ
address_of hood minor sees = number_of (map (line_shows sees) (names_of hood minor))

-- the address that the cell at column x of row y shows
abbrev pub address : ℕ → Cells → Setting → Hood → Minor → ℕ → ℕ → ℕ
address s f setting hood minor x y = address_of hood minor (λ name. seen s f setting name x y)

-- what an address shows on a line
abbrev pub shown : ℕ → ℕ → Bool
shown address line = bit_at address line == 1

-- and on the line of a name; 0 if the wiring lacks the name
abbrev pub shown_under : ℕ → Option ℕ → Bool
shown_under address None = false
shown_under address (Some line) = shown address line

-- what an address shows under each name
abbrev pub environment : Hood → Minor → ℕ → Sees
environment hood minor address name = shown_under address (line_of hood minor name)
