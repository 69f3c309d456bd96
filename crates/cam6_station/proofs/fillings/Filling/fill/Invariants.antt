use Rattle.std.proofs.Common.{◌≡◌, ◌<◌, ◌≤◌, ℕ, [], slice_index_or}
use Rattle.cam6_cycle.specs.Limits.{max_tables}
use Rattle.cam6_slot.specs.Needs.{needs_of, IsTableNeeded}
use Rattle.cam6_station.specs.Loading.{IsAfterLoadsOf}
use Rattle.cam6_station.proofs.fillings.Filling.fill.Given as goal

abbrev pub invariant-loop-index : goal.invariant-loop-index
invariant-loop-index l = record {
  lease : l.lease ≡ l.fn.lease;
  end : l.index-end ≡ needs_of l.lease.work;
  few : l.index-end ≤ max_tables;
  filled : (k : ℕ) → k < l.index →
      IsTableNeeded l.lease.work k (slice_index_or l.self k []);
  loads : IsAfterLoadsOf l.lease.work l.index l.fn.cache l.cache;
  capacity : l.cache.capacity ≡ l.fn.cache.capacity;
}
