use Rattle.std.proofs.Common.{◌∙◌, sym}
use Rattle.cam6_planes.proofs.SameWords.{column_of_max, column_of_zero}
use Rattle.cam6_planes.proofs.columns.word_of.Goals as goal

pub returns-then-bit : goal.returns-then-bit
returns-then-bit c = λ k h. column_of_max k ∙ sym c.if-bit.true

pub returns-else-bit : goal.returns-else-bit
returns-else-bit c = λ k h. column_of_zero k ∙ sym c.if-bit.false
