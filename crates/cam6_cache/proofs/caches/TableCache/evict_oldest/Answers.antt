use Rattle.std.proofs.Common.{◌-◌, length, ap, sym, subst, ◌∙◌, is_some}
use Rattle.cam6_cache.specs.Internal.Entries.{tables_of}
use Rattle.cam6_cache.proofs.CachedTables.{IsInOrder, cached_where_popped, are_true_take}
use Rattle.cam6_cache.proofs.CachedTables.{last_unless_empty}
use Rattle.cam6_cache.proofs.caches.TableCache.evict_oldest.Goals as goal

pub invariant_of-self : goal.invariant_of-self
invariant_of-self c =
    let is = cached_where_popped c.self.inside.tables c.pop_lru.new.self c.pop_lru.ensures.entries in
    let tables = tables_of c.self.inside.tables.entries in
    subst IsInOrder (sym is)
    (are_true_take (length tables - 1) tables c.self.invariant.0, c.self.invariant.1)

pub returns-clause-some : goal.returns-clause-some
returns-clause-some c =
    rw (← c.self.view_is)
    (c.is_some.ensures ∙ ap is_some c.pop_lru.ensures.value ∙
    last_unless_empty c.self.inside.tables.entries)

pub returns-clause-rest : goal.returns-clause-rest
returns-clause-rest c =
    rw (← c.self.view_is)
    (cached_where_popped c.self.inside.tables c.pop_lru.new.self c.pop_lru.ensures.entries)
