use Rattle.std.proofs.Common.{drop}
use Rattle.cam6_planes.specs.Side.{side_number}
use Rattle.cam6_patterns.specs.Outcome.{lines_of_row}
use Rattle.cam6_patterns.proofs.Fronts.{Written}
use Rattle.cam6_patterns.proofs.placing.Placement.write_row.Given as goal

abbrev pub invariant-loop-k : goal.invariant-loop-k
invariant-loop-k g l =
    Written (g.W.Write.contents l.fn.writer) (g.W.Write.contents l.writer)
    (lines_of_row (side_number l.self.side) l.self.first l.self.top l.self.pattern.now l.y 0 l.planes)
    (lines_of_row (side_number l.self.side) l.self.first l.self.top l.self.pattern.now l.y l.k
    (drop l.k l.planes))
