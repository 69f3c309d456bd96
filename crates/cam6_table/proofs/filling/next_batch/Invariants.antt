use Rattle.std.proofs.Common.{◌≡◌, ◌≤◌, ◌-◌, ◌+◌, length}
use Rattle.cam6_table.specs.Internal.Filling.{AreNext}
use Rattle.cam6_table.specs.declared.lane_values.TheConstants.{LANES}
use Rattle.cam6_table.proofs.filling.next_batch.Given as goal

-- the addresses so far are those before the end so far
abbrev pub invariant-loop-end : goal.invariant-loop-end
invariant-loop-end l = record {
  lanes : length l.addresses ≡ LANES;
  count : l.count ≤ LANES;
  from : l.fn.from ≤ l.end;
  within : l.end ≤ l.fn.last + 1;
  empty : l.end ≡ l.fn.from → l.count ≡ 0;
  next : AreNext l.fn.mask l.fn.from l.table l.addresses l.count l.end;
}

abbrev pub decreases-loop-end : goal.decreases-loop-end
decreases-loop-end l = 4096 - l.end
