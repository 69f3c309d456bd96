-- Lines that are written one by one, and what all of them show.
use Rattle.std.proofs.Common.{◌≡◌, ℕ, zero, suc, ◌+◌, ◌/◌, ◌%◌, ◌<◌, ◌==◌, ◌&&◌, Bool}
use Rattle.std.proofs.Common.{List, [], ◌∷◌, map, length, get_or, set, refl, sym, ◌∙◌, ap, subst}
use Rattle.std.proofs.Common.{arith, get_or-set_other, get_or-set_same}
use Rattle.std.proofs.lemmas.Nat.Bits.{bit_at-suc, bit_at_lowest}
use Rattle.std.specs.Int.{bit_at}
use native.Mathlib.Decide.{dec_lt}
use Rattle.cam6_lines.specs.Units.{asked_for}

-- one more item is written, where each is to have a property of its place
pub one_more : {A : Type 0} (P : ℕ → A → Type 0) (xs : List A) (d r : A) (k : ℕ) →
    k < length xs → ((j : ℕ) → j < k → P j (get_or xs j d)) → P k r →
    (j : ℕ) → j < k + 1 → P j (get_or (set xs k r) j d)
one_more P xs d r k room below here j h =
    elim (dec_lt j k) [
      | Prim.yes lt ↦
          subst (P j) (sym (get_or-set_other xs k j r d (omega (arith, lt)))) (below j lt)
      | Prim.no ge ↦
          let e : k ≡ j = omega (arith, h, ge) in
          subst (λ n. P n (get_or (set xs k r) n d)) e
          (subst (P k) (sym (get_or-set_same xs k r d room)) here)
    ]

-- two lists of one length, of which the first shows, item by item, what the second does where a
-- mask has a bit, and 0 elsewhere
pub map_asked : {A B : Type 0} (f : A → Bool) (g : B → Bool) (mask : ℕ) (xs : List A) (ys : List B)
    (d : A) (e : B) (n : ℕ) → length xs ≡ n → length ys ≡ n →
    ((k : ℕ) → k < n → f (get_or xs k d) ≡ ((bit_at mask k == 1) && g (get_or ys k e))) →
    map f xs ≡ asked_for mask (map g ys)
map_asked f g mask [] [] d e n h k same = refl
map_asked f g mask [] (y ∷ ys) d e n h k same = absurd (omega (arith, h, k))
map_asked f g mask (x ∷ xs) [] d e n h k same = absurd (omega (arith, h, k))
map_asked f g mask (x ∷ xs) (y ∷ ys) d e zero h k same = absurd (omega (arith, h))
map_asked f g mask (x ∷ xs) (y ∷ ys) d e (suc n) h k same =
    ap (λ b. b ∷ map f xs) (same 0 (omega arith) ∙
    ap (λ b. (b == 1) && g y) (bit_at_lowest mask)) ∙
    ap (λ bs. ((mask % 2 == 1) && g y) ∷ bs) (map_asked f g (mask / 2) xs ys d e n
    (omega (arith, h)) (omega (arith, k)) (λ i l. same (suc i) (omega (arith, l)) ∙
    ap (λ b. (b == 1) && g (get_or ys i e)) (bit_at-suc mask i)))
