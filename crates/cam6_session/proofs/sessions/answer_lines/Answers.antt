use Rattle.cam6_session.proofs.Known.{serves_none, serves_all, serves_until_fault}
use Rattle.cam6_session.proofs.Known.{serves_until_bound, runs_on, serves_until, serves_last}
use Rattle.cam6_session.proofs.Known.{serves_until_last, serves_until_room}
use Rattle.cam6_session.proofs.Spending.{spent_more}
use Rattle.std.proofs.Common.{◌∙◌}
use Rattle.cam6_session.proofs.sessions.answer_lines.Goals as goal
use Rattle.cam6_session.proofs.sessions.answer_lines.Goals.{in-Ok-respond, in-Err-respond}

pub returns-in_default-clause-served : goal.returns-in_default-clause-served
returns-in_default-clause-served g c = serves_none g.A.Answerer.answering _ _ _

pub returns-in-EndOfInput-clause-served : goal.returns-in-EndOfInput-clause-served
returns-in-EndOfInput-clause-served g c =
    serves_all _ _ _ _ _ _ _ _ c.next_line.new.line c.loop-line.invariant.runs
    c.in-EndOfInput.ensures.line

pub returns-in-ReadFault-clause-served : goal.returns-in-ReadFault-clause-served
returns-in-ReadFault-clause-served g c =
    serves_until_fault _ _ _ _ _ _ _ _ c.next_line.new.line c.loop-line.invariant.runs
    c.in-ReadFault.ensures.line

pub returns-in-TurnBound-clause-served : goal.returns-in-TurnBound-clause-served
returns-in-TurnBound-clause-served g c =
    serves_until_bound _ _ _ _ _ _ _ _ c.next_line.new.line c.loop-line.invariant.runs
    c.in-TurnBound.ensures.line

pub returns-in-NoMemory-clause-served : goal.returns-in-NoMemory-clause-served
returns-in-NoMemory-clause-served g c =
    serves_until_room _ _ _ _ _ _ _ _ c.next_line.new.line c.loop-line.invariant.runs
    c.in-NoMemory.ensures.line

pub returns-in-Err-clause-served : goal.returns-in-Err-clause-served
returns-in-Err-clause-served g c =
    rw c.from.ensures
    (serves_until _ _ _ _ _ _ _ _ _ c.loop-line.invariant.runs _ _ c.in-Err.stop
    c.in-Ended.ensures.line c.in-Err.ensures.responds)

pub loop-line-preserved : goal.loop-line-preserved
loop-line-preserved g c = record {
  ready = c.respond.ensures.ready;
  user = λ u is. c.respond.ensures.user u (c.loop-line.invariant.user u is);
  runs = runs_on _ _ _ _ _ _ _ _ _ c.loop-line.invariant.runs _ _ c.in-Ended.ensures.line
      c.in_default-respond.ensures.responds;
  spent = spent_more _ _ _ _ _ _ _ c.loop-line.invariant.spent c.in-Ended.ensures.line
      c.in-Ended.ensures.bytes;
}

pub returns-in-Last-clause-served : goal.returns-in-Last-clause-served
returns-in-Last-clause-served g c = elim c.match-respond-2.branch [
  | in-Ok-respond w ↦
      rw w.result-is
      (serves_last _ _ _ _ _ _ _ _ _ c.loop-line.invariant.runs _ _ c.in-Last.ensures.line
      w.in-Ok-respond.ensures.responds)
  | in-Err-respond w ↦
      rw (w.result-is ∙ w.from-in-Err-respond.ensures)
      (serves_until_last _ _ _ _ _ _ _ _ _ c.loop-line.invariant.runs _ _
      w.in-Err-respond.stop c.in-Last.ensures.line w.in-Err-respond.ensures.responds)
]
