use Rattle.std.proofs.Common.{◌≡◌, ◌<◌, ◌≤◌, ℕ}
use Rattle.cam6_table.specs.declared.lane_values.TheConstants.{LANES}
use Rattle.cam6_table.specs.Internal.Lanes.{Stands, IsKept, IsUntouched}
use Rattle.cam6_table.specs.Internal.Sets.{IsIn, IsOut}
use Rattle.cam6_table.proofs.levels.fill_gaps.Given as goal

-- the lanes so far have their states, and in the others nothing was done
abbrev pub invariant-loop-lane : goal.invariant-loop-lane
invariant-loop-lane l = record {
  len : l.lanes.stacks.len ≡ l.fn.lanes.stacks.len;
  dug : (k top : ℕ) → k < l.lane → IsIn l.set k → Stands k top l.fn.lanes.floors →
      IsKept top l.fn.lanes top l.lanes k;
  left : (k : ℕ) → l.lane ≤ k → k < LANES → IsUntouched l.fn.lanes l.lanes k;
  outside : (k : ℕ) → k < LANES → IsOut l.set k → IsUntouched l.fn.lanes l.lanes k;
}
