use Rattle.cam6_planes.proofs.Blank.{column_bit-zeros}
use Rattle.cam6_planes.specs.declared.row.TheConstants.{WORDS}
use Rattle.cam6_wiring.proofs.lines.put_line.Goals as goal

pub returns-in-None : goal.returns-in-None
returns-in-None c = λ f around x l. rw c.in-None.is (column_bit-zeros WORDS x)
