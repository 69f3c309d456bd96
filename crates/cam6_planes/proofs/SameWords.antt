-- The columns of words that are the same throughout.
use Rattle.std.proofs.Common.{◌≡◌, ℕ, ◌-◌, true, false, nat_eq, ap, arith}
use Rattle.std.proofs.lemmas.Nat.Bits.{bit_at_ones, bit_at-zero}
use Rattle.cam6_planes.specs.Row.{word_column}

pub column_of_max : (c : ℕ) → word_column 0xffffffffffffffff c ≡ true
unfolding word_column
column_of_max c = ap (λ b. nat_eq b 1) (bit_at_ones 64 (63 - c) (omega arith))

pub column_of_zero : (c : ℕ) → word_column 0 c ≡ false
unfolding word_column
column_of_zero c = ap (λ b. nat_eq b 1) (bit_at-zero (63 - c))
