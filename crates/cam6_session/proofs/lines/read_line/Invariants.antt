use Rattle.std.proofs.Common.{◌≤◌}
use Rattle.cam6_session.proofs.Parts.{HasRead}
use Rattle.cam6_session.specs.Spending.{TookAsMany}
use Rattle.cam6_session.proofs.lines.read_line.Given as goal

abbrev pub invariant-loop-reads_left : goal.invariant-loop-reads_left
invariant-loop-reads_left g l = record {
  read : HasRead (g.R.Read.remaining l.fn.reader) (g.R.Read.remaining l.reader) l.line;
  reads_left : l.reads_left ≤ l.fn.reads_left;
  bytes : TookAsMany l.fn.reads_left l.reads_left (g.R.Read.remaining l.fn.reader)
      (g.R.Read.remaining l.reader);
}

abbrev pub decreases-loop-reads_left : goal.decreases-loop-reads_left
decreases-loop-reads_left g l = l.reads_left
