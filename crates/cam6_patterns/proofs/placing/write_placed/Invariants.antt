use Rattle.cam6_planes.specs.Side.{side_number}
use Rattle.cam6_patterns.specs.Placing.{placed}
use Rattle.cam6_patterns.proofs.Fronts.{Written}
use Rattle.cam6_patterns.proofs.LinesOfRows.{rows_from}
use Rattle.cam6_patterns.proofs.placing.write_placed.Given as goal

abbrev pub invariant-loop-y : goal.invariant-loop-y
invariant-loop-y g l =
    Written (g.W.Write.contents l.fn.writer) (g.W.Write.contents l.writer)
    (placed (side_number l.fn.side) l.column l.row l.planes l.pattern)
    (rows_from (side_number l.fn.side) l.column l.row l.planes l.pattern l.y)
