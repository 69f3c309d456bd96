use Rattle.cam6_planes.proofs.Blank.{column_bit-zeros}
use Rattle.cam6_wiring.proofs.MixedColumns.{column_of_ones}
use Rattle.std.proofs.Common.{sym, ◌∙◌}
use Rattle.cam6_program.proofs.running.constant.Goals as goal

pub returns-then-bit : goal.returns-then-bit
returns-then-bit c = λ x h. column_of_ones 64 x h ∙ sym c.if-bit.true

pub returns-else-bit : goal.returns-else-bit
returns-else-bit c = λ x h. column_bit-zeros 64 x ∙ sym c.if-bit.false
