-- The new bits of a cell.
use Rattle.std.specs.Prelude.{ℕ, ◌/◌, ◌%◌, ◌==◌, Bool}
use Rattle.cam6_wiring.specs.declared.names.Level.{Level}
use Rattle.cam6_wiring.specs.declared.names.Level.TheVariants.{Lower, Upper}

abbrev pub is_odd : ℕ → Bool
is_odd v = v % 2 == 1

-- the lowest of the two new bits is the lower plane's, and the next is the upper plane's
abbrev pub bit_for : Level → ℕ → Bool
bit_for Lower bits = is_odd bits
bit_for Upper bits = is_odd (bits / 2)
