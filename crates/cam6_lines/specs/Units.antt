-- Units: the rows of a band, of as many columns as are looked at together, one row after the other.
use Rattle.std.specs.Prelude.{ℕ, ◌+◌, ◌*◌, ◌/◌, ◌%◌, ◌==◌, Bool, ◌&&◌, List, [], ◌∷◌}
use Rattle.std.specs.Prelude.{slice_index_or}
use Rattle.cam6_planes.specs.Row.{column_bit}
use Rattle.cam6_planes.specs.declared.sides.Side.{Side}
use Rattle.cam6_planes.specs.declared.sides.Side.TheVariants.{S128, S256, S512}

-- columns of a unit
abbrev pub columns : Side → ℕ
columns S128 = 128
columns S256 = 256
columns S512 = 256

-- where a unit has column i of its row r
abbrev pub place : Side → ℕ → ℕ → ℕ
place side r i = columns side * r + i

-- the bit at column x of row r of a band that lies in these units
abbrev pub bit_in : Side → List (List ℕ) → ℕ → ℕ → Bool
bit_in side units r x =
    column_bit (slice_index_or units (x / columns side) []) (place side r (x % columns side))

-- what lines show if a mask has a bit for them, and 0 on the others; the lowest line comes first
abbrev pub asked_for : ℕ → List Bool → List Bool
asked_for mask [] = []
asked_for mask (bit ∷ bits) = ((mask % 2 == 1) && bit) ∷ asked_for (mask / 2) bits
