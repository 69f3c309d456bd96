use Rattle.std.proofs.Common.{ℕ}
use Rattle.cam6_session.proofs.Known.{Runs}
use Rattle.cam6_session.proofs.Spending.{Spent}
use Rattle.cam6_session.proofs.sessions.answer_lines.Given as goal

abbrev pub invariant-loop-line : goal.invariant-loop-line
invariant-loop-line g l = record {
  ready : g.A.Answerer.may_answer l.answerer;
  user : (u : ℕ) → g.A.Answerer.is_of u l.fn.answerer → g.A.Answerer.is_of u l.answerer;
  runs : Runs g.A.Answerer.answering (g.R.Read.remaining l.fn.reader) (g.R.Read.remaining l.reader)
      (g.W.Write.contents l.fn.writer) (g.W.Write.contents l.writer)
      (g.A.Answerer.asked l.fn.answerer) (g.A.Answerer.asked l.answerer);
  spent : Spent l.fn.reads_left l.left (g.R.Read.remaining l.fn.reader)
      (g.R.Read.remaining l.reader);
}

abbrev pub decreases-loop-line : goal.decreases-loop-line
decreases-loop-line g l = l.left
