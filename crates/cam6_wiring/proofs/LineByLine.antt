-- Lines that are written one by one, and what all of them show.
use Rattle.std.proofs.Common.{◌≡◌, ℕ, zero, suc, ◌<◌, ◌+◌, Bool, List, [], ◌∷◌, map, length}
use Rattle.std.proofs.Common.{get_or, set, refl, sym, ◌∙◌, ap, arith, get_or-set_other}
use Rattle.std.proofs.Common.{get_or-set_same}
use native.Mathlib.Decide.{dec_lt}

-- two lists of one length are the same under two functions where they are so item by item
pub map_same : {A B : Type 0} (f : A → Bool) (g : B → Bool) (xs : List A) (ys : List B) (d : A)
    (e : B) (n : ℕ) → length xs ≡ n → length ys ≡ n →
    ((k : ℕ) → k < n → f (get_or xs k d) ≡ g (get_or ys k e)) → map f xs ≡ map g ys
map_same f g [] [] d e n h k same = refl
map_same f g [] (y ∷ ys) d e n h k same = absurd (omega (arith, h, k))
map_same f g (x ∷ xs) [] d e n h k same = absurd (omega (arith, h, k))
map_same f g (x ∷ xs) (y ∷ ys) d e zero h k same = absurd (omega (arith, h))
map_same f g (x ∷ xs) (y ∷ ys) d e (suc n) h k same =
    ap (λ b. b ∷ map f xs) (same 0 (omega arith)) ∙
    ap (λ bs. g y ∷ bs) (map_same f g xs ys d e n (omega (arith, h)) (omega (arith, k))
    (λ i l. same (suc i) (omega (arith, l))))

-- one more item is written, where g says what f is to show of each
pub one_more : {A : Type 0} (f : A → Bool) (g : ℕ → Bool) (xs : List A) (d r : A) (k : ℕ) →
    k < length xs → ((j : ℕ) → j < k → f (get_or xs j d) ≡ g j) → f r ≡ g k →
    (j : ℕ) → j < k + 1 → f (get_or (set xs k r) j d) ≡ g j
one_more f g xs d r k h below here j l =
    elim (dec_lt j k) [
      | Prim.yes lt ↦ ap f (get_or-set_other xs k j r d (omega arith)) ∙ below j lt
      | Prim.no ge ↦
          let e : j ≡ k = omega arith in
          ap (λ n. f (get_or (set xs k r) n d)) e ∙ ap f (get_or-set_same xs k r d h) ∙ here ∙
          ap g (sym e)
    ]
