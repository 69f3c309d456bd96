use Rattle.std.proofs.Common.{◌≡◌, ◌+◌, ◌++◌, length}
use Rattle.cam6_table.specs.Internal.Lanes.{column}
use Rattle.cam6_table.proofs.lane_stacks.Stacks.put_rows.Given as goal

-- the stack has the values of the rows so far on top
abbrev pub invariant-loop-k : goal.invariant-loop-k
invariant-loop-k l = record {
  values : l.stack ≡ column l.lane l.self.rows l.from l.k ++ l.fn.stack;
  high : length l.stack + l.from ≡ length l.fn.stack + l.k;
}
