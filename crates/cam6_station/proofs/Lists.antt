-- Lists that grow at their end, for the crates above.
use Rattle.std.proofs.Common.{◌≡◌, ◌++◌, ◌⊎◌, inl, inr, ℕ, zero, suc, List, [], ◌∷◌, length, Some, refl, ap}
use Rattle.std.specs.List.{slice_get}
use Rattle.std.proofs.lemmas.Option.{same_Some}

-- what stands in a list with one more at its end
pub last_or_before : {A : Type 0} (xs : List A) (x : A) (i : ℕ) (y : A) →
    slice_get (xs ++ x ∷ []) i ≡ Some y → (slice_get xs i ≡ Some y) ⊎ ((i ≡ length xs) × (x ≡ y))
last_or_before [] x zero y at = inr (refl, same_Some x y at)
last_or_before [] x (suc i) y at = cc at
last_or_before (z ∷ xs) x zero y at = inl at
last_or_before (z ∷ xs) x (suc i) y at = elim (last_or_before xs x i y at) [
  | inl before ↦ inl before
  | inr last ↦ inr (ap suc last.0, last.1)
]
