-- The bits of a word that is shifted, or masked, or both.
use Rattle.std.proofs.Common.{◌≡◌, ℕ, ◌+◌, ◌-◌, ◌*◌, ◌/◌, ◌%◌, ◌^◌, ◌<◌, ◌≤◌, sym, ◌∙◌, ap, arith}
use Rattle.std.proofs.Common.{bit_and, bit_or}
use Rattle.std.specs.Int.{bit_at}
use Rattle.std.proofs.lemmas.Nat.{shr-shr, pow_pos}
use Rattle.std.proofs.lemmas.Nat.Bits.{bit_at_or, bit_at_and, bit_at-lt, bit_at-zero}
use Rattle.std.proofs.lemmas.Nat.Bits.{bit_at_cat_low, bit_at_cat_high}
use native.Mathlib.Decide.{dec_lt}

-- what `<<` drops isn't seen
dropped : (x s p : ℕ) → p < 64 → bit_at (x * 2 ^ s % 2 ^ 64) p ≡ bit_at (x * 2 ^ s + 0) p
dropped x s p h =
    let whole : x * 2 ^ s ≡ x * 2 ^ s / 2 ^ 64 * 2 ^ 64 + x * 2 ^ s % 2 ^ 64 = omega arith in
    let nothing : x * 2 ^ s + 0 ≡ x * 2 ^ s = omega arith in
    sym (bit_at_cat_low (x * 2 ^ s / 2 ^ 64) 64 (x * 2 ^ s % 2 ^ 64) p h) ∙
    ap (λ n. bit_at n p) (sym whole ∙ sym nothing)

-- `x << s` below position s, and from there on
pub shl_low : (x s p : ℕ) → p < 64 → p < s → bit_at (x * 2 ^ s % 2 ^ 64) p ≡ 0
shl_low x s p h l = dropped x s p h ∙ bit_at_cat_low x s 0 p l ∙ bit_at-zero p

pub shl_high : (x s p : ℕ) → p < 64 → s ≤ p → bit_at (x * 2 ^ s % 2 ^ 64) p ≡ bit_at x (p - s)
shl_high x s p h l = dropped x s p h ∙ bit_at_cat_high x s 0 p (pow_pos s) l

-- `a >> s`
pub bit_shr : (a s p : ℕ) → bit_at (a / 2 ^ s) p ≡ bit_at a (p + s)
bit_shr a s p =
    let e : s + p ≡ p + s = omega arith in
    ap (λ n. n % 2) (shr-shr a s p ∙ ap (λ n. a / 2 ^ n) e)

module _ (a b m s p : ℕ) where
  -- `a & m | (b & m) << s`, where m has position p, and not the one that comes to p
  pub first_kept : p < 64 → bit_at m p ≡ 1 → (s ≤ p → bit_at m (p - s) ≡ 0) →
      bit_at (bit_or (bit_and a m) (bit_and b m * 2 ^ s % 2 ^ 64)) p ≡ bit_at a p
  first_kept h one none =
      let other : bit_at (bit_and b m * 2 ^ s % 2 ^ 64) p ≡ 0 =
      elim (dec_lt p s) [
        | Prim.yes lt ↦ shl_low (bit_and b m) s p h lt
        | Prim.no ge ↦ shl_high (bit_and b m) s p h (omega arith) ∙ bit_at_and b m (p - s) ∙
            rw (none (omega arith)) (omega arith)
      ] in
      bit_at_or (bit_and a m) (bit_and b m * 2 ^ s % 2 ^ 64) p ∙
      rw (other, bit_at_and a m p, one) (omega (arith, bit_at-lt a p))

  -- and where m lacks position p, and has the one that comes there
  pub first_taken : p < 64 → s ≤ p → bit_at m p ≡ 0 → bit_at m (p - s) ≡ 1 →
      bit_at (bit_or (bit_and a m) (bit_and b m * 2 ^ s % 2 ^ 64)) p ≡ bit_at b (p - s)
  first_taken h le none one =
      bit_at_or (bit_and a m) (bit_and b m * 2 ^ s % 2 ^ 64) p ∙
      rw (bit_at_and a m p, none, shl_high (bit_and b m) s p h le, bit_at_and b m (p - s), one)
      (omega (arith, bit_at-lt b (p - s)))

  -- `a >> s & m | b & n`, where m has position p, and where n has it
  pub second_taken : (n : ℕ) → bit_at m p ≡ 1 → bit_at n p ≡ 0 →
      bit_at (bit_or (bit_and (a / 2 ^ s) m) (bit_and b n)) p ≡ bit_at a (p + s)
  second_taken n one none =
      bit_at_or (bit_and (a / 2 ^ s) m) (bit_and b n) p ∙
      rw (bit_at_and (a / 2 ^ s) m p, one, bit_at_and b n p, none, bit_shr a s p)
      (omega (arith, bit_at-lt a (p + s)))

  pub second_kept : (n : ℕ) → bit_at m p ≡ 0 → bit_at n p ≡ 1 →
      bit_at (bit_or (bit_and (a / 2 ^ s) m) (bit_and b n)) p ≡ bit_at b p
  second_kept n none one =
      bit_at_or (bit_and (a / 2 ^ s) m) (bit_and b n) p ∙
      rw (bit_at_and (a / 2 ^ s) m p, none, bit_at_and b n p, one) (omega (arith, bit_at-lt b p))
