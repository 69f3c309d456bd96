use Rattle.std.proofs.Common.{◌∙◌}
use Rattle.cam6_planes.proofs.Blank.{column_bit-zeros}
use Rattle.cam6_planes.specs.declared.row.TheConstants.{WORDS}
use Rattle.cam6_planes.proofs.row.west.Goals as goal

pub returns-clause-past : goal.returns-clause-past
returns-clause-past c = λ x h. c.put_west.ensures.past x h ∙ column_bit-zeros WORDS x
