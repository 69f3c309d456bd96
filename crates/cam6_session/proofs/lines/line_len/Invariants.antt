use Rattle.std.proofs.Common.{take}
use Rattle.cam6_wire.specs.OneLine.{HasNoLf}
use Rattle.cam6_session.proofs.lines.line_len.Given as goal

abbrev pub invariant-loop-i : goal.invariant-loop-i
invariant-loop-i l = HasNoLf (take l.i l.bytes)
