use Rattle.std.proofs.Common.{◌≡◌, true, sym, subst}
use Rattle.cam6_cache.specs.Keys.{TableKey, IsReversibleKey}
use Rattle.cam6_try_rules.proofs.rules.caches.load.Goals as goal

pub load-requires-clause-reversible : goal.load-requires-clause-reversible
load-requires-clause-reversible c =
    subst (λ (key : TableKey). key.inverted ≡ true → IsReversibleKey key) (sym c.set.ensures)
    (c.why_refused.ensures c.in_default.is)
