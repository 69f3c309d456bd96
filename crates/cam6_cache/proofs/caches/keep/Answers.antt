use Rattle.std.proofs.Common.{◌≡◌, ◌⊎◌, ℕ, List, subst}
use Rattle.cam6_cache.specs.Cached.{with_first}
use Rattle.cam6_cache.specs.Internal.Entries.{key_of, cached_of}
use Rattle.cam6_cache.proofs.SameKeys.{named_alike}
use Rattle.cam6_cache.proofs.CachedTables.{cached_or_not}
use Rattle.cam6_cache.proofs.caches.keep.Goals as goal

pub returns : goal.returns
returns c =
    let own = c.in-Ok-clone.own in
    let key = c.args.key.now in
    let alike = c.in-Ok-clone.ensures.cases in
    let old = c.args.tables.now in
    let new = c.put.new.self in
    subst
    (λ (table : List ℕ).
    (cached_of new ≡ with_first (key_of key) table (cached_of old)) ⊎ (cached_of new ≡ cached_of old))
    c.copy_from.ensures
    (cached_or_not c.put.result own (key_of key) old new c.copy_from.new.self
    (named_alike own key alike.0 alike.1.0 alike.1.1.0 alike.1.1.1.0 alike.1.1.1.1)
    c.requires.absent c.put.ensures.entries c.put.ensures.err)
