-- Lists with one thing changed, by index and by number.
use Rattle.std.proofs.Common.{◌≡◌, ◌≢◌, ◌∙◌, ℕ, zero, suc, ◌<◌, List, [], ◌∷◌, length, set, Option}
use Rattle.std.proofs.Common.{Some, sym, refl, ap, arith, length-set}
use Rattle.std.specs.List.{slice_get}
use Rattle.cam6_core.specs.State.{at_number, with_number, IsNumber}

module _ {A : Type 0} where
  pub one_of : (o : Option A) (a b : A) → o ≡ Some a → o ≡ Some b → a ≡ b
  one_of o a b p q = let e : Some a ≡ Some b = sym p ∙ q in cc e

  pub within : (l : List A) (i : ℕ) (a : A) → slice_get l i ≡ Some a → i < length l
  within [] i a e = cc e
  within (x ∷ xs) zero a e = omega arith
  within (x ∷ xs) (suc i) a e = let h = within xs i a e in omega (arith, h)

  pub set_here : (l : List A) (i : ℕ) (a : A) → i < length l → slice_get (set l i a) i ≡ Some a
  set_here [] i a h = absurd (omega (arith, h))
  set_here (x ∷ xs) zero a h = refl
  set_here (x ∷ xs) (suc i) a h = set_here xs i a (omega (arith, h))

  pub set_else : (l : List A) (i j : ℕ) (a : A) → j ≢ i → slice_get (set l i a) j ≡ slice_get l j
  set_else [] i j a n = refl
  set_else (x ∷ xs) zero zero a n = absurd (n refl)
  set_else (x ∷ xs) zero (suc j) a n = refl
  set_else (x ∷ xs) (suc i) zero a n = refl
  set_else (x ∷ xs) (suc i) (suc j) a n = set_else xs i j a (λ e. n (ap suc e))

  set_twice : (l : List A) (i : ℕ) (a b : A) → set (set l i a) i b ≡ set l i b
  set_twice [] i a b = refl
  set_twice (x ∷ xs) zero a b = refl
  set_twice (x ∷ xs) (suc i) a b = ap (λ (t : List A). x ∷ t) (set_twice xs i a b)

  set_again : (l : List A) (i : ℕ) (a : A) → slice_get l i ≡ Some a → set l i a ≡ l
  set_again [] i a e = refl
  set_again (x ∷ xs) zero a e =
      let f : x ≡ a = cc e in ap (λ (y : A). y ∷ xs) (sym f)
  set_again (x ∷ xs) (suc i) a e = ap (λ (t : List A). x ∷ t) (set_again xs i a e)

  -- the same by numbers from 1
  pub is_number : (l : List A) (u : ℕ) (a : A) → at_number l u ≡ Some a → IsNumber (length l) u
  is_number l zero a e = cc e
  is_number l (suc i) a e = let h = within l i a e in (omega arith, omega (arith, h))

  pub long_with : (l : List A) (u : ℕ) (a : A) → length (with_number l u a) ≡ length l
  long_with l zero a = refl
  long_with l (suc i) a = length-set l i a

  pub here_with : (l : List A) (u : ℕ) (a : A) → IsNumber (length l) u →
      at_number (with_number l u a) u ≡ Some a
  here_with l zero a h = absurd (omega (arith, h.0))
  here_with l (suc i) a h = set_here l i a (omega (arith, h.1))

  pub else_with : (l : List A) (u v : ℕ) (a : A) → v ≢ u →
      at_number (with_number l u a) v ≡ at_number l v
  else_with l zero v a n = refl
  else_with l (suc i) zero a n = refl
  else_with l (suc i) (suc j) a n = set_else l i j a (λ e. n (ap suc e))

  pub twice_with : (l : List A) (u : ℕ) (a b : A) →
      with_number (with_number l u a) u b ≡ with_number l u b
  twice_with l zero a b = refl
  twice_with l (suc i) a b = set_twice l i a b

  pub again_with : (l : List A) (u : ℕ) (a : A) → at_number l u ≡ Some a →
      with_number l u a ≡ l
  again_with l zero a e = refl
  again_with l (suc i) a e = set_again l i a e
