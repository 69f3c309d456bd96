-- Phases by their numbers.
use Rattle.std.proofs.Common.{◌≡◌, ℕ, zero, suc, ◌<◌, refl, arith}
use Rattle.cam6_wiring.specs.Name.{phase_number}
use Rattle.cam6_wiring.specs.declared.names.Phase.{Phase}
use Rattle.cam6_wiring.specs.declared.names.Phase.TheVariants.{P0, P1, P2, P3}

-- the phase with this number
abbrev pub phase_of : ℕ → Phase
phase_of zero = P0
phase_of (suc zero) = P1
phase_of (suc (suc zero)) = P2
phase_of (suc (suc (suc n))) = P3

pub phase_of-number : (phase : Phase) → phase_of (phase_number phase) ≡ phase
phase_of-number P0 = refl
phase_of-number P1 = refl
phase_of-number P2 = refl
phase_of-number P3 = refl

pub phase_number-lt : (phase : Phase) → phase_number phase < 4
phase_number-lt P0 = omega arith
phase_number-lt P1 = omega arith
phase_number-lt P2 = omega arith
phase_number-lt P3 = omega arith
