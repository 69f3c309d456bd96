-- The state of a block of four cells in both planes of a half, as a number, and what each corner
-- sees in it.
--
--     0  1      corners are counted clockwise from the upper left one, round and round: corner 4 is
--     3  2      corner 0 again
use Rattle.std.specs.Prelude.{ℕ, ◌+◌, ◌%◌, ◌==◌, ◌||◌, Bool, false, [], ◌∷◌}
use Rattle.std.specs.Int.{bit_at}
use Rattle.cam6_wiring.specs.Name.{phase_bit}
use Rattle.cam6_wiring.specs.Seen.{Sees, number_of, address_of}
use Rattle.cam6_wiring.specs.declared.names.Compass.TheVariants.{Center}
use Rattle.cam6_wiring.specs.declared.names.Level.{Level}
use Rattle.cam6_wiring.specs.declared.names.Level.TheVariants.{Lower, Upper}
use Rattle.cam6_wiring.specs.declared.names.Name.TheVariants as name
use Rattle.cam6_wiring.specs.declared.names.Phase.{Phase}
use Rattle.cam6_wiring.specs.declared.names.Rotation.{Rotation}
use Rattle.cam6_wiring.specs.declared.names.Rotation.TheVariants.{Clockwise, Opposite}
use Rattle.cam6_wiring.specs.declared.names.Rotation.TheVariants.{CounterClockwise}
use Rattle.cam6_wiring.specs.declared.wirings.Hood.{Hood}
use Rattle.cam6_wiring.specs.declared.wirings.Minor.{Minor}

-- the number of block states: a bit at each of four corners in each of two planes
abbrev pub block_states : ℕ
block_states = 256

-- the lower plane's bits are the four lowest
abbrev pub first_bit : Level → ℕ
first_bit Lower = 0
first_bit Upper = 4

-- the bit that a state has at a corner
unfoldable pub corner_bit : ℕ → Level → ℕ → Bool
corner_bit state level corner = bit_at state (corner % 4 + first_bit level) == 1

-- the state with these bits
unfoldable pub state_of : (Level → ℕ → Bool) → ℕ
state_of bit =
    number_of
    (bit Lower 0 ∷ bit Lower 1 ∷ bit Lower 2 ∷ bit Lower 3
    ∷ bit Upper 0 ∷ bit Upper 1 ∷ bit Upper 2 ∷ bit Upper 3 ∷ [])

-- a corner's two bits as a table has them
unfoldable pub corner_bits : ℕ → ℕ → ℕ
corner_bits state corner =
    number_of (corner_bit state Lower corner ∷ corner_bit state Upper corner ∷ [])

-- how many corners further clockwise a name in the block looks
abbrev pub corners_on : Rotation → ℕ
corners_on Clockwise = 1
corners_on Opposite = 2
corners_on CounterClockwise = 3

-- corners 1 and 2 lie in the right column
abbrev pub is_right : ℕ → Bool
is_right corner = (corner % 4 == 1) || (corner % 4 == 2)

-- corners 2 and 3 lie in the lower row
abbrev pub is_low : ℕ → Bool
is_low corner = (corner % 4 == 2) || (corner % 4 == 3)

-- what a corner sees in its block under each name; it sees nothing of what lies beside the block,
-- nor of the other half
abbrev pub corner_sees : Phase → ℕ → ℕ → Sees
corner_sees phase state corner (name.Beside Center level) = corner_bit state level corner
corner_sees phase state corner (name.Beside _ level) = false
corner_sees phase state corner (name.InBlock rotation level) =
    corner_bit state level (corner + corners_on rotation)
corner_sees phase state corner (name.Phase level) = phase_bit phase level
corner_sees phase state corner name.Horz = is_right corner
corner_sees phase state corner name.Vert = is_low corner
corner_sees phase state corner (name.MinorCenter level) = false
corner_sees phase state corner (name.MinorPhase level) = phase_bit phase level
corner_sees phase state corner name.MinorHorz = is_right corner
corner_sees phase state corner name.MinorVert = is_low corner

-- the address that a corner shows
unfoldable pub corner_address : Hood → Minor → Phase → ℕ → ℕ → ℕ
corner_address hood minor phase state corner =
    address_of hood minor (corner_sees phase state corner)
