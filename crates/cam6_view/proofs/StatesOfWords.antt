-- The state of a column by its bit in each plane.
use Rattle.std.proofs.Common.{◌≡◌, ℕ, ◌+◌, ◌*◌, Bool, true, false, if◌then◌else◌, ap, arith}
use Rattle.cam6_planes.specs.Row.{bit_number}

-- of sixteen bits that of a state, by the two upper planes
pub by_upper : (bits : ℕ → Bool) (lower : ℕ) (third fourth : Bool) →
    (if fourth then (if third then bits (12 + lower) else bits (8 + lower))
    else (if third then bits (4 + lower) else bits (0 + lower)))
    ≡ bits (lower + 4 * bit_number third + 8 * bit_number fourth)
by_upper bits lower false false = ap bits (omega arith)
by_upper bits lower false true = ap bits (omega arith)
by_upper bits lower true false = ap bits (omega arith)
by_upper bits lower true true = ap bits (omega arith)
