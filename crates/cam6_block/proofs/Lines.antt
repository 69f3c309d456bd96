-- The lines that a corner of a block shows: eight bits of the block, and four that its state has no
-- part in.
use Rattle.std.proofs.Common.{◌≡◌, ℕ, ◌+◌, ◌*◌, Bool, true, false, List, [], ◌∷◌}
use Rattle.std.proofs.Common.{◌++◌, length, drop, map, refl, sym, ◌∙◌, ap, arith}
use Rattle.std.proofs.lemmas.List.{length-map}
use Rattle.cam6_wiring.specs.Name.{phase_bit}
use Rattle.cam6_wiring.specs.Seen.{number_of, line_shows, address_of}
use Rattle.cam6_wiring.specs.Wiring.{names_of, hood_names, minor_names, is_margolus}
use Rattle.cam6_wiring.specs.declared.names.Level.TheVariants.{Lower, Upper}
use Rattle.cam6_wiring.specs.declared.names.Phase.{Phase}
use Rattle.cam6_wiring.specs.declared.wirings.Hood.{Hood}
use Rattle.cam6_wiring.specs.declared.wirings.Hood.TheVariants.{Moore, VonNeumann, Margolus}
use Rattle.cam6_wiring.specs.declared.wirings.Hood.TheVariants.{MargolusPhase, MargolusHorzVert}
use Rattle.cam6_wiring.specs.declared.wirings.Minor.{Minor}
use Rattle.cam6_wiring.specs.declared.wirings.Minor.TheVariants.{Centers, Phases, HorzVert}
use Rattle.cam6_block.specs.Blocks.{corner_bit, corner_sees, corner_address, is_right, is_low}

-- what a corner shows on each line
abbrev pub lines : Hood → Minor → Phase → ℕ → ℕ → List Bool
lines hood minor phase state corner =
    map (line_shows (corner_sees phase state corner)) (names_of hood minor)

-- on lines 0 to 7
abbrev pub block_lines : ℕ → ℕ → List Bool
block_lines state corner =
    corner_bit state Lower corner ∷ corner_bit state Upper corner
    ∷ corner_bit state Lower (corner + 1) ∷ corner_bit state Lower (corner + 3)
    ∷ corner_bit state Lower (corner + 2)
    ∷ corner_bit state Upper (corner + 1) ∷ corner_bit state Upper (corner + 3)
    ∷ corner_bit state Upper (corner + 2) ∷ []

-- and on lines 8 to 11, whatever the state
abbrev pub other_lines : Hood → Minor → Phase → ℕ → List Bool
other_lines hood minor phase corner =
    map (line_shows (corner_sees phase 0 corner)) (drop 8 (names_of hood minor))

pub split : (hood : Hood) (minor : Minor) (phase : Phase) (state corner : ℕ) →
    is_margolus hood ≡ true →
    lines hood minor phase state corner
    ≡ block_lines state corner ++ other_lines hood minor phase corner
split Moore minor phase state corner h = cc
split VonNeumann minor phase state corner h = cc
split Margolus Centers phase state corner h = refl
split Margolus Phases phase state corner h = refl
split Margolus HorzVert phase state corner h = refl
split MargolusPhase Centers phase state corner h = refl
split MargolusPhase Phases phase state corner h = refl
split MargolusPhase HorzVert phase state corner h = refl
split MargolusHorzVert Centers phase state corner h = refl
split MargolusHorzVert Phases phase state corner h = refl
split MargolusHorzVert HorzVert phase state corner h = refl

pub other_long : (hood : Hood) (minor : Minor) (phase other : Phase) (corner k : ℕ) →
    length (other_lines hood minor phase corner) ≡ length (other_lines hood minor other k)
other_long hood minor phase other corner k =
    length-map (drop 8 (names_of hood minor)) _ ∙ sym (length-map (drop 8 (names_of hood minor)) _)

-- lines 8 and 9 and lines 10 and 11, each as a number
abbrev hood_number : Hood → Phase → ℕ → ℕ
hood_number hood phase corner =
    number_of (map (line_shows (corner_sees phase 0 corner)) (drop 8 (hood_names hood)))

abbrev minor_number : Minor → Phase → ℕ → ℕ
minor_number minor phase corner =
    number_of (map (line_shows (corner_sees phase 0 corner)) (minor_names minor))

two_more : (a b : Bool) (rest : List Bool) →
    number_of (a ∷ b ∷ rest) ≡ number_of (a ∷ b ∷ []) + 4 * number_of rest
two_more a b rest = omega arith

other_number : (hood : Hood) (minor : Minor) (phase : Phase) (corner : ℕ) →
    is_margolus hood ≡ true →
    number_of (other_lines hood minor phase corner)
    ≡ hood_number hood phase corner + 4 * minor_number minor phase corner
other_number Moore minor phase corner h = cc
other_number VonNeumann minor phase corner h = cc
other_number Margolus minor phase corner h =
    two_more false false (map (line_shows (corner_sees phase 0 corner)) (minor_names minor))
other_number MargolusPhase minor phase corner h =
    two_more (phase_bit phase Lower) (phase_bit phase Upper)
    (map (line_shows (corner_sees phase 0 corner)) (minor_names minor))
other_number MargolusHorzVert minor phase corner h =
    two_more (is_right corner) (is_low corner)
    (map (line_shows (corner_sees phase 0 corner)) (minor_names minor))

eight_more : (state corner : ℕ) (rest : List Bool) →
    number_of (block_lines state corner ++ rest)
    ≡ number_of (block_lines state corner) + 256 * number_of rest
eight_more state corner rest = omega arith

-- a corner's address, part by part
pub address_by_parts : (hood : Hood) (minor : Minor) (phase : Phase) (state corner : ℕ) →
    is_margolus hood ≡ true →
    number_of (block_lines state corner) + 256 * hood_number hood phase corner
    + 1024 * minor_number minor phase corner
    ≡ corner_address hood minor phase state corner
unfolding corner_address address_of
address_by_parts hood minor phase state corner h =
    omega (
      arith,
      other_number hood minor phase corner h,
      eight_more state corner (other_lines hood minor phase corner),
      ap number_of (split hood minor phase state corner h),
    )
