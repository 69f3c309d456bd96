use Rattle.cam6_wiring.proofs.MixedColumns.{odd_columns, even_columns}
use Rattle.cam6_planes.specs.declared.row.TheConstants.{WORDS}
use Rattle.cam6_wiring.proofs.columns.right_columns.Goals as goal

pub returns-in-Even : goal.returns-in-Even
returns-in-Even c = λ x h. rw c.in-Even.is (odd_columns WORDS x h)

pub returns-in-Odd : goal.returns-in-Odd
returns-in-Odd c = λ x h. rw c.in-Odd.is (even_columns WORDS x h)
