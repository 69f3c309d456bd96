use Rattle.std.proofs.Common.{◌∙◌}
use Rattle.cam6_planes.proofs.Blank.{column_bit-zeros}
use Rattle.cam6_wiring.specs.Seen.{shown}
use Rattle.cam6_program.proofs.AddressLines.{not_shown}
use Rattle.cam6_program.proofs.validating.asked_line.Goals as goal

pub returns-else-asked-line-eq1 : goal.returns-else-asked-line-eq1
returns-else-asked-line-eq1 c = λ address h.
    column_bit-zeros 64 address ∙
    not_shown c.args.asked c.args.line c.if-asked-line-eq1.false (shown address c.args.line)
