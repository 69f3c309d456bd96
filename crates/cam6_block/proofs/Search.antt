-- A search of all block states, which keeps the state of each successor.
use Rattle.std.proofs.Common.{◌≡◌, ◌≢◌, inl, inr, ℕ, zero, suc, ◌+◌, ◌<◌, ◌≤◌, List, length, get_or}
use Rattle.std.proofs.Common.{set, Option, Some, None, refl, sym, ◌∙◌, ap, arith, replicate}
use Rattle.std.proofs.Common.{length-set}
use Rattle.std.proofs.lemmas.List.{get_or-set_same, get_or-set_other}
use Rattle.std.proofs.lemmas.Bool.Decides.{eqb_tells}
use native.Mathlib.Decide.{dec_lt}
use Rattle.cam6_block.specs.BlockMaps.{IsOneToOne}
use Rattle.cam6_block.specs.Refusals.{IsMeeting}

-- the block states below n, each at its successor
pub record IsKept (f : ℕ → ℕ) (n : ℕ) (block_states : List (Option ℕ)) : Type 0 where
  pub long : length block_states ≡ 256
  pub kept : (s : ℕ) → s < n → get_or block_states (f s) None ≡ Some s
  pub only : (t s : ℕ) → get_or block_states t None ≡ Some s → (s < n) × (f s ≡ t)

get_or-none : (n t : ℕ) → get_or (replicate n (let x : Option ℕ = None in x)) t None ≡ None
get_or-none zero t = refl
get_or-none (suc n) zero = refl
get_or-none (suc n) (suc t) = get_or-none n t

pub none_kept : (f : ℕ → ℕ) (block_states : List (Option ℕ)) → block_states ≡ replicate 256 None →
    length block_states ≡ 256 → IsKept f 0 block_states
none_kept f block_states e long = record {
  long = long;
  kept = λ s h. absurd (omega arith);
  only = λ t s h.
      let none : get_or block_states t None ≡ None = ap (λ l. get_or l t None) e ∙ get_or-none 256 t in
      cc;
}

some_same : (s t : ℕ) (o : Option ℕ) → o ≡ Some s → o ≡ Some t → s ≡ t
some_same s t o h k = cc

module _ (f : ℕ → ℕ) (b successor : ℕ) (block_states : List (Option ℕ)) (k : IsKept f b block_states)
    (is : successor ≡ f b) where
  pub is_meeting : (a : ℕ) → b < 256 → get_or block_states successor None ≡ Some a → IsMeeting f a b
  is_meeting a h e = record {
    smaller = (k.only successor a e).0;
    state = h;
    meet = (k.only successor a e).1 ∙ is;
    least = λ s t l m p.
        let same : s ≡ t =
        some_same s t (get_or block_states (f t) None)
        (ap (λ i. get_or block_states i None) (sym p) ∙ k.kept s (omega arith)) (k.kept t m) in
        omega arith;
  }

  pub one_more : successor < 256 → get_or block_states successor None ≡ None →
      IsKept f (b + 1) (set block_states successor (Some b))
  one_more h e = record {
    long = omega (arith, k.long, length-set block_states successor (Some b));
    kept = λ s l. elim (dec_lt s b) [
      | Prim.yes m ↦
          let old : get_or block_states (f s) None ≡ Some s = k.kept s m in
          let ne : f s ≢ successor = λ p.
          let bad : get_or block_states successor None ≡ Some s =
          ap (λ i. get_or block_states i None) (sym p) ∙ old in cc in
          get_or-set_other block_states successor (f s) (Some b) None ne ∙ old
      | Prim.no m ↦
          let same : s ≡ b = omega arith in
          ap (λ i. get_or (set block_states successor (Some b)) i None) (ap f same ∙ sym is) ∙
          get_or-set_same block_states successor (Some b) None (omega (arith, k.long)) ∙
          ap (λ n. Some n) (sym same)
    ];
    only = λ t s p. elim (eqb_tells t successor) [
      | inl q ↦
          let here : get_or (set block_states successor (Some b)) t None ≡ Some b =
          ap (λ i. get_or (set block_states successor (Some b)) i None) (q.1) ∙
          get_or-set_same block_states successor (Some b) None (omega (arith, k.long)) in
          let same : s ≡ b =
          some_same s b (get_or (set block_states successor (Some b)) t None) p here in
          (omega arith, ap f same ∙ sym is ∙ sym (q.1))
      | inr q ↦
          let ne : t ≢ successor = q.1 in
          let old : get_or block_states t None ≡ Some s =
          sym (get_or-set_other block_states successor t (Some b) None ne) ∙ p in
          let r : s < b = (k.only t s old).0 in
          (omega arith, (k.only t s old).1)
    ];
  }

pub none_meet : (f : ℕ → ℕ) (n : ℕ) (block_states : List (Option ℕ)) → 256 ≤ n → IsKept f n block_states →
    IsOneToOne f
none_meet f n block_states h k s t l m e =
    some_same s t (get_or block_states (f t) None)
    (ap (λ i. get_or block_states i None) (sym e) ∙ k.kept s (omega arith)) (k.kept t (omega arith))
