use Rattle.std.proofs.Common.{arith, refl}
use Rattle.cam6_session.proofs.Parts as parts
use Rattle.cam6_session.proofs.Spending.{took_more, took_newline}
use Rattle.cam6_session.proofs.lines.read_line.Goals as goal

pub loop-reads_left-preserved : goal.loop-reads_left-preserved
loop-reads_left-preserved g c = record {
  read = parts.more_is_read _ _ _ _ _ c.loop-reads_left.invariant.read c.in-More.ensures;
  reads_left = omega arith;
  bytes = took_more _ _ (omega arith) _ _ _ _ _ c.loop-reads_left.invariant.read c.in-More.ensures
      c.loop-reads_left.invariant.bytes;
}

pub returns-then-is_met-clause-line : goal.returns-then-is_met-clause-line
returns-then-is_met-clause-line g c =
    parts.line_exceeds c.args.extent _ _ _
    (parts.more_is_read _ _ _ _ _ c.loop-reads_left.invariant.read c.in-More.ensures)
    (c.if-is_met.ensures refl)

pub returns-then-is_met-clause-bytes : goal.returns-then-is_met-clause-bytes
returns-then-is_met-clause-bytes g c =
    took_more _ _ (omega arith) _ _ _ _ _ c.loop-reads_left.invariant.read c.in-More.ensures
    c.loop-reads_left.invariant.bytes

pub returns-in-Newline-clause-line : goal.returns-in-Newline-clause-line
returns-in-Newline-clause-line g c =
    parts.reads_to c.args.extent _ _ _ _
    (parts.line_is_ended _ _ _ _ _ c.loop-reads_left.invariant.read c.in-Newline.ensures)

pub returns-in-Newline-clause-bytes : goal.returns-in-Newline-clause-bytes
returns-in-Newline-clause-bytes g c =
    took_newline _ _ (omega arith) _ _ _ _ _ c.loop-reads_left.invariant.read c.in-Newline.ensures
    c.loop-reads_left.invariant.bytes

pub returns-in-AtEnd-clause-line : goal.returns-in-AtEnd-clause-line
returns-in-AtEnd-clause-line g c =
    parts.reads_to c.args.extent _ _ _ _
    (rw c.at_end_of_input.ensures
    (parts.input_is_ended _ _ _ _ _ c.loop-reads_left.invariant.read c.in-AtEnd.ensures))

pub returns-in-Fault-clause-line : goal.returns-in-Fault-clause-line
returns-in-Fault-clause-line g c =
    parts.reads_to c.args.extent _ _ _ _
    (parts.reading_failed _ _ _ _ _ c.loop-reads_left.invariant.read c.in-Fault.ensures)

pub returns-in-NoMemory-clause-line : goal.returns-in-NoMemory-clause-line
returns-in-NoMemory-clause-line g c =
    parts.reads_to c.args.extent _ _ _ _
    (parts.room_is_wanted _ _ _ _ _ c.loop-reads_left.invariant.read c.in-NoMemory.ensures)
