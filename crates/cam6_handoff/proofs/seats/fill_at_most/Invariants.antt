use Rattle.std.proofs.Common.{◌≡◌, ◌<◌, ◌≤◌, ◌+◌, ℕ, [], slice_index_or}
use Rattle.cam6_slot.specs.Needs.{needs_of, IsTableNeeded}
use Rattle.cam6_handoff.proofs.seats.fill_at_most.Given as goal

-- the tables of the uses that were passed are the true ones
abbrev pub invariant-loop-index : goal.invariant-loop-index
invariant-loop-index g l = record {
  lease : l.lease ≡ l.fn.lease;
  from : l.from ≡ l.fn.from;
  most : l.most ≡ l.fn.most;
  end : l.index-end ≡ needs_of l.lease.work;
  lacked : l.from + l.lacked ≤ l.index;
  few : l.lacked ≤ l.most;
  filled : (k : ℕ) → k < l.index →
      IsTableNeeded l.lease.work k (slice_index_or l.filling k []);
}
