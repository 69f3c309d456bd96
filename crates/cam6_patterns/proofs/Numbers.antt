-- A number of any length, and one that stands for it.
use Rattle.std.proofs.Common.{◌≡◌, ◌+◌, ◌*◌, ◌-◌, ℕ, List, ◌∷◌, true, refl, sym, ap}
use Rattle.std.proofs.Common.{◌∙◌, inl, inr, arith, cond}
use Rattle.cam6_patterns.specs.Header.{is_decimal, number_after}
use Rattle.cam6_patterns.specs.Outcome.{StandsFor}

-- a number stands for itself
pub stands_itself : (n : ℕ) → StandsFor n n
stands_itself n = record { ring = refl; size = inl refl }

-- a digit after both
pub stands_more : (n m k d : ℕ) → StandsFor n m → StandsFor (10 * m + d) k
    → StandsFor (10 * n + d) k
stands_more n m k d same more = record {
  ring = omega (arith, same.ring, more.ring);
  size = elim same.size [
    | inl e ↦ elim more.size [
      | inl f ↦ inl (omega (arith, e, f))
      | inr f ↦ inr (f.0, omega (arith, e, f.1))
    ]
    | inr e ↦ inr (
      elim more.size [ inl f ↦ omega (arith, e.0, f) | inr f ↦ f.0 ],
      omega (arith, e.1),
    )
  ];
}

-- one more digit of a text
pub digit_more : (n byte : ℕ) (rest later : List ℕ) (whole : ℕ × List ℕ) → rest ≡ byte ∷ later
    → is_decimal byte ≡ true → number_after n rest ≡ whole
    → number_after (10 * n + (byte - 48)) later ≡ whole
digit_more n byte rest later whole is decimal after =
    ap (λ t. cond t (number_after (10 * n + (byte - 48)) later) (n, byte ∷ later)) (sym decimal)
    ∙ ap (number_after n) (sym is) ∙ after
