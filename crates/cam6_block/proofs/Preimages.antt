-- The least state with a successor, where no two have one.
use Rattle.std.proofs.Common.{◌≡◌, ℕ, zero, suc, ◌+◌, ◌<◌, ◌≤◌, ◌==◌, Bool, true, false}
use Rattle.std.proofs.Common.{if◌then◌else◌, refl, sym, ◌∙◌, ap, arith}
use Rattle.std.proofs.lemmas.Bool.{eqb-true, eq-eqb}
use native.Mathlib.Decide.{dec_lt}
use Rattle.cam6_wiring.specs.declared.names.Phase.{Phase}
use Rattle.cam6_block.specs.BlockMaps.{Reading, block_map, IsOneToOne, first_from, preimage}
use Rattle.cam6_block.proofs.States.{block_map-lt}
use Rattle.cam6_block.proofs.Pigeonhole.{takes_each}

-- the number at which p holds is the first at which it does, where p holds at no other
first_is : (p : ℕ → Bool) (n k s : ℕ) (here : Bool) → p k ≡ here → k ≤ s → s < k + n →
    p s ≡ true → ((i : ℕ) → i < k + n → p i ≡ true → i ≡ s) → first_from p n k ≡ s
first_is p zero k s here is low high holds only = absurd (omega arith)
first_is p (suc n) k s true is low high holds only =
    ap (λ b. if b then k else first_from p n (suc k)) is ∙ only k (omega arith) is
first_is p (suc n) k s false is low high holds only =
    ap (λ b. if b then k else first_from p n (suc k)) is ∙
    elim (dec_lt k s) [
      | Prim.yes less ↦
          first_is p n (suc k) s (p (suc k)) refl (omega arith) (omega arith) holds
          (λ i below. only i (omega arith))
      | Prim.no more ↦
          let same : k ≡ s = omega arith in
          let bad : p k ≡ true = ap p same ∙ holds in
          cc
    ]

pub preimage_is : (f : ℕ → ℕ) (s : ℕ) → s < 256 → IsOneToOne f → preimage f (f s) ≡ s
unfolding preimage
preimage_is f s h one =
    first_is (λ state. f state == f s) 256 0 s (f 0 == f s) refl (omega arith) (omega arith)
    (eq-eqb _ _ refl) (λ i l e. one i s (omega arith) h (eqb-true _ _ e))

-- each state has a preimage
pub preimage-lt : (read : Reading) (phase : Phase) (successor : ℕ) → successor < 256 →
    IsOneToOne (block_map read phase) → preimage (block_map read phase) successor < 256
preimage-lt read phase successor h one =
    let from : (s : ℕ) × (s < 256) × (block_map read phase s ≡ successor) =
    takes_each (block_map read phase) (λ s _. block_map-lt read phase s) one successor h in
    let same : preimage (block_map read phase) successor ≡ from.0 =
    ap (preimage (block_map read phase)) (sym (from.2)) ∙
    preimage_is (block_map read phase) (from.0) (from.1) one in
    omega (arith, from.1)
