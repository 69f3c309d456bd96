use Rattle.std.proofs.Common.{◌≡◌, ◌≤◌, ◌++◌, drop}
use Rattle.cam6_patterns.specs.Writing.{filled, row_by_row}
use Rattle.cam6_patterns.proofs.writing.push_rows.Given as goal

abbrev pub invariant-loop-y : goal.invariant-loop-y
invariant-loop-y l = record {
  same : l.fn.text.items ++ filled 0 (row_by_row l.states 0 l.frame)
      ≡ l.text.items ++ filled l.used (row_by_row l.states l.ends (drop l.y l.frame));
  ends : l.ends ≤ l.y;
}
