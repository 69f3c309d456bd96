use Rattle.std.proofs.Common.{◌<◌, ◌≤◌, ℕ}
use Rattle.cam6_table.specs.declared.lane_values.TheConstants.{LANES}
use Rattle.cam6_table.specs.Internal.Lanes.{GoOn, Holds, IsSpanned, IsWithin}
use Rattle.cam6_table.specs.Internal.Sets.{IsIn}
use Rattle.cam6_table.proofs.straight.run_straight.Given as goal

-- in each lane there is left to do what there was
abbrev pub invariant-loop-remaining : goal.invariant-loop-remaining
invariant-loop-remaining l = record {
  falls : l.remaining ≤ l.from;
  narrows : IsWithin l.span l.fn.span;
  holds : Holds l.span l.lanes.stacks.len;
  floors : (lane : ℕ) → lane < LANES → IsIn l.set.mask lane →
      IsSpanned l.span lane l.lanes.floors;
  left : GoOn l.addresses l.code l.set.mask l.from l.fn.lanes l.remaining l.lanes;
}

abbrev pub decreases-loop-remaining : goal.decreases-loop-remaining
decreases-loop-remaining l = l.remaining
