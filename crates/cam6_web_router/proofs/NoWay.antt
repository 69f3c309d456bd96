-- No socket is at a path that none of the hosts has.
use Rattle.std.proofs.Common.{◌≡◌, ◌∙◌, ◌+◌, ◌-◌, ◌<◌, ℕ, List, ap, arith, inl, inr}
use Rattle.cam6_web_router.specs.declared.ways.Way.{Way}
use Rattle.cam6_web_router.specs.declared.ways.Way.TheVariants.{Own, Host}
use Rattle.cam6_web_router.specs.Ways.{LeadsTo, path_to_host, path_to_socket}

pub no_way : (hosts : ℕ) (path : List ℕ) → (path ≡ path_to_socket → ⊥)
    → ((k : ℕ) → k < hosts → path ≡ path_to_host (k + 1) → ⊥) → (way : Way) → LeadsTo hosts path way → ⊥
no_way hosts path first others Own leads = first leads.0
no_way hosts path first others (Host k) leads =
    elim leads.2 [
      | inl w ↦ first w.0
      | inr w ↦ others (k - 1) (omega (arith, leads.0, leads.1)) (w ∙ ap path_to_host (omega (arith, leads.0)))
    ]
