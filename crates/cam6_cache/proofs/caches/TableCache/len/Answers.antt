use Rattle.std.proofs.Common.{subst}
use Rattle.cam6_cache.specs.Cached.{Cached, AreApart}
use Rattle.cam6_cache.proofs.CachedTables.{are_apart}
use Rattle.cam6_cache.proofs.caches.TableCache.len.Goals as goal

pub returns-clause-apart : goal.returns-clause-apart
returns-clause-apart c =
    subst (λ (cached : Cached). AreApart cached.tables) c.self.view_is
    (are_apart c.self.inside.tables.entries c.len.ensures.valid.0)
