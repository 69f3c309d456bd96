-- Words whose columns are chosen by a mask.
use Rattle.std.proofs.Common.{◌≡◌, ℕ, zero, suc, ◌+◌, ◌-◌, ◌*◌, ◌^◌, ◌<◌}
use Rattle.std.proofs.Common.{min, max, if◌then◌else◌, refl, ◌∙◌, ap, arith, bit_and, bit_or}
use Rattle.std.proofs.Common.{◌==◌, w64}
use Rattle.std.specs.Int.{bit_at}
use Rattle.std.proofs.lemmas.Nat.Bits.{bit_at_or, bit_at_and, bit_at_not, bit_at-lt}
use Rattle.cam6_planes.specs.Row.{word_column}

-- one of two bits, chosen by a third
chosen_bit : (w a b : ℕ) → w < 2 → a < 2 → b < 2 →
    (max (min w b) (min (1 - w) a) == 1) ≡ (if w == 1 then b == 1 else a == 1)
chosen_bit zero zero zero h k l = refl
chosen_bit zero zero (suc zero) h k l = refl
chosen_bit zero (suc zero) zero h k l = refl
chosen_bit zero (suc zero) (suc zero) h k l = refl
chosen_bit (suc zero) zero zero h k l = refl
chosen_bit (suc zero) zero (suc zero) h k l = refl
chosen_bit (suc zero) (suc zero) zero h k l = refl
chosen_bit (suc zero) (suc zero) (suc zero) h k l = refl
chosen_bit (suc (suc w)) a b h k l = absurd (omega arith)
chosen_bit w (suc (suc a)) b h k l = absurd (omega arith)
chosen_bit w a (suc (suc b)) h k l = absurd (omega arith)

-- the columns of one word where a mask has them, and those of another elsewhere
pub chosen_column : (mask unset set c : ℕ) → mask < 2 ^ 64 → c < 64 →
    word_column (bit_or (bit_and mask set) (bit_and (18446744073709551615 - mask) unset)) c
    ≡ (if word_column mask c then word_column set c else word_column unset c)
unfolding word_column
chosen_column mask unset set c h k =
    let i = 63 - c in
    ap (λ n. n == 1)
    (bit_at_or (bit_and mask set) (bit_and (18446744073709551615 - mask) unset) i ∙
    rw (
      bit_at_and mask set i,
      bit_at_and (18446744073709551615 - mask) unset i,
      bit_at_not w64 mask i h (omega arith),
    ) refl) ∙
    chosen_bit (bit_at mask i) (bit_at unset i) (bit_at set i) (bit_at-lt mask i)
    (bit_at-lt unset i) (bit_at-lt set i)
