-- Names: the planes and bits that they read, and when two are the same.
use Rattle.std.specs.Prelude.{ℕ, zero, suc, Bool, true, false, ◌&&◌}
use Rattle.cam6_wiring.specs.declared.names.Compass.{Compass}
use Rattle.cam6_wiring.specs.declared.names.Compass.TheVariants.{Center, North, South, West}
use Rattle.cam6_wiring.specs.declared.names.Compass.TheVariants.{East, NorthWest, NorthEast}
use Rattle.cam6_wiring.specs.declared.names.Compass.TheVariants.{SouthWest, SouthEast}
use Rattle.cam6_wiring.specs.declared.names.Rotation.{Rotation}
use Rattle.cam6_wiring.specs.declared.names.Rotation.TheVariants.{Clockwise, Opposite, CounterClockwise}
use Rattle.cam6_wiring.specs.declared.names.Half.{Half}
use Rattle.cam6_wiring.specs.declared.names.Half.TheVariants.{A, B}
use Rattle.cam6_wiring.specs.declared.names.Level.{Level}
use Rattle.cam6_wiring.specs.declared.names.Level.TheVariants.{Lower, Upper}
use Rattle.cam6_wiring.specs.declared.names.Phase.{Phase}
use Rattle.cam6_wiring.specs.declared.names.Phase.TheVariants.{P0, P1, P2, P3}
use Rattle.cam6_wiring.specs.declared.names.Name.{Name}
use Rattle.cam6_wiring.specs.declared.names.Name.TheVariants as name

-- the number of a half's plane
abbrev pub plane_of : Half → Level → ℕ
plane_of A Lower = 0
plane_of A Upper = 1
plane_of B Lower = 2
plane_of B Upper = 3

abbrev pub other_half : Half → Half
other_half A = B
other_half B = A

-- whether two halves are one
abbrev pub is_same_half : Half → Half → Bool
is_same_half A A = true
is_same_half A B = false
is_same_half B A = false
is_same_half B B = true

-- a bit for each of the four planes from a bit for each plane of a half
abbrev pub on_plane : ℕ → (Half → Level → Bool) → Bool
on_plane zero bit = bit A Lower
on_plane (suc zero) bit = bit A Upper
on_plane (suc (suc zero)) bit = bit B Lower
on_plane (suc (suc (suc p))) bit = bit B Upper

-- the phase's low bit, or its high bit
abbrev pub phase_bit : Phase → Level → Bool
phase_bit P0 level = false
phase_bit P1 Lower = true
phase_bit P1 Upper = false
phase_bit P2 Lower = false
phase_bit P2 Upper = true
phase_bit P3 level = true

-- the phase's number
abbrev pub phase_number : Phase → ℕ
phase_number P0 = 0
phase_number P1 = 1
phase_number P2 = 2
phase_number P3 = 3

abbrev pub is_same_level : Level → Level → Bool
is_same_level Lower Lower = true
is_same_level Lower Upper = false
is_same_level Upper Lower = false
is_same_level Upper Upper = true

abbrev pub is_same_rotation : Rotation → Rotation → Bool
is_same_rotation Clockwise Clockwise = true
is_same_rotation Opposite Opposite = true
is_same_rotation CounterClockwise CounterClockwise = true
is_same_rotation _ _ = false

abbrev pub is_same_compass : Compass → Compass → Bool
is_same_compass Center Center = true
is_same_compass North North = true
is_same_compass South South = true
is_same_compass West West = true
is_same_compass East East = true
is_same_compass NorthWest NorthWest = true
is_same_compass NorthEast NorthEast = true
is_same_compass SouthWest SouthWest = true
is_same_compass SouthEast SouthEast = true
is_same_compass _ _ = false

-- whether two names are one
abbrev pub is_same_name : Name → Name → Bool
is_same_name (name.Beside c l) (name.Beside d m) = is_same_compass c d && is_same_level l m
is_same_name (name.InBlock c l) (name.InBlock d m) = is_same_rotation c d && is_same_level l m
is_same_name (name.Phase l) (name.Phase m) = is_same_level l m
is_same_name name.Horz name.Horz = true
is_same_name name.Vert name.Vert = true
is_same_name (name.MinorCenter l) (name.MinorCenter m) = is_same_level l m
is_same_name (name.MinorPhase l) (name.MinorPhase m) = is_same_level l m
is_same_name name.MinorHorz name.MinorHorz = true
is_same_name name.MinorVert name.MinorVert = true
is_same_name _ _ = false
