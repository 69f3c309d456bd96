-- A test of each number below a bound, which the check computes.
use Rattle.std.proofs.Common.{◌≡◌, ℕ, zero, suc, ◌<◌, Bool, true, false, ◌&&◌, refl, ◌∙◌, ap, arith}
use native.Mathlib.Decide.{dec_lt}

both_first : (a b : Bool) → (a && b) ≡ true → a ≡ true
both_first true b e = refl
both_first false b e = e

both_second : (a b : Bool) → (a && b) ≡ true → b ≡ true
both_second true b e = e
both_second false b e = cc

abbrev pub all_below : (ℕ → Bool) → ℕ → Bool
all_below test zero = true
all_below test (suc n) = test n && all_below test n

-- a number below the bound passes
pub at_each : (test : ℕ → Bool) (n i : ℕ) → i < n → all_below test n ≡ true → test i ≡ true
at_each test zero i h e = absurd (omega (arith, h))
at_each test (suc n) i h e =
    elim (dec_lt i n) [
      | Prim.yes lt ↦ at_each test n i lt (both_second (test n) (all_below test n) e)
      | Prim.no ge ↦
          let last : i ≡ n = omega arith in
          ap test last ∙ both_first (test n) (all_below test n) e
    ]
