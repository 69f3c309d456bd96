use Rattle.std.proofs.Common.{ap, sym, ◌∙◌, is_some}
use Rattle.cam6_cache.specs.Internal.Entries.{key_of, cached_of}
use Rattle.cam6_cache.proofs.CachedTables.{found_where_cached, true_where_found, cached_where_promoted}
use Rattle.cam6_cache.proofs.CachedTables.{in_order_with_first, in_order_or_not}
use Rattle.cam6_cache.proofs.caches.TableCache.load.Goals as goal

pub returns-in-Some-clause-table : goal.returns-in-Some-clause-table
returns-in-Some-clause-table c =
    rw (c.copy_from.ensures, ← c.named-named.ensures)
    (true_where_found c.named-named.result.now c.self.inside.tables.entries c.in-Some.table.now
    c.self.invariant.0 (sym c.in-Some.ensures))

pub returns-in-Some-clause-hit : goal.returns-in-Some-clause-hit
returns-in-Some-clause-hit c =
    rw (← c.named-named.ensures, ← c.self.view_is)
    (c.promote.ensures.value ∙
    found_where_cached c.named-named.result.now c.self.inside.tables.entries)

pub returns-in-Some-clause-cached : goal.returns-in-Some-clause-cached
returns-in-Some-clause-cached c =
    rw (c.promote.ensures.value, ap is_some (sym c.in-Some.ensures))
    (rw (c.copy_from.ensures, ← c.named-named.ensures, ← c.self.view_is)
    (cached_where_promoted c.named-named.result.now c.self.inside.tables c.promote.new.self
    c.in-Some.table.now (sym c.in-Some.ensures) c.promote.ensures.entries))

pub invariant_of-self : goal.invariant_of-self
invariant_of-self c =
    let k = c.named-named.result.now in
    let old = c.self.inside.tables in
    let table = c.in-Some.table.now in
    let is = sym c.in-Some.ensures in
    in_order_with_first (key_of k) table (cached_of old) (cached_of c.promote.new.self)
    (true_where_found k old.entries table c.self.invariant.0 is) c.self.invariant
    (cached_where_promoted k old c.promote.new.self table is c.promote.ensures.entries)

pub keep-requires : goal.keep-requires
keep-requires c =
    record {
      absent =
          sym
          (ap is_some c.in_default.ensures ∙
          found_where_cached c.named-named.result.now c.self.inside.tables.entries);
    }

pub invariant_of-self-2 : goal.invariant_of-self-2
invariant_of-self-2 c =
    in_order_or_not (key_of c.named-named.result.now) c.fill_true.new.out
    (cached_of c.self.inside.tables) (cached_of c.keep.new.tables) c.fill_true.ensures c.self.invariant
    c.keep.ensures

pub returns-clause-hit : goal.returns-clause-hit
returns-clause-hit c =
    rw (← c.named-named.ensures, ← c.self.view_is)
    (ap is_some c.in_default.ensures ∙
    found_where_cached c.named-named.result.now c.self.inside.tables.entries)
