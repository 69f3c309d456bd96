-- The value of digits.
use Rattle.std.proofs.Common.{◌≡◌, ◌<◌, ◌≤◌, ◌+◌, ◌*◌, ◌-◌, ℕ, List, [], ◌∷◌, drop}
use Rattle.std.proofs.Common.{length, get_or, refl, add-one, arith, drop-cons}
use Rattle.cam6_forth.specs.Kinds.{value_from}

-- more digits make no value smaller
pub value_from-le : (v : ℕ) (bs : List ℕ) → v ≤ value_from v bs
value_from-le v [] = omega arith
value_from-le v (b ∷ bs) = omega (arith, value_from-le (v * 10 + (b - 48)) bs)

-- one more digit
pub value_from-more : (v : ℕ) (bs : List ℕ) (i : ℕ) → i < length bs →
    value_from v (drop i bs) ≡ value_from (v * 10 + (get_or bs i 0 - 48)) (drop (i + 1) bs)
value_from-more v bs i within = rw (add-one, drop-cons bs i 0) refl

-- what the loop over a literal's digits needs
pub ruleset digit_steps = (value_from-le, value_from-more)
