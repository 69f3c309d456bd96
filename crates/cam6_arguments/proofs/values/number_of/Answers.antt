use Rattle.std.proofs.Common.{◌∙◌, sym}
use Rattle.cam6_arguments.proofs.Numbers.{no_number, number_by_range}
use Rattle.cam6_arguments.proofs.values.number_of.Goals as goal

pub returns-in_default-clause-number : goal.returns-in_default-clause-number
returns-in_default-clause-number c =
    sym (no_number c.args.least c.args.most c.args.word.now
    (λ within. c.in_default.ensures.value.0 (within.0, within.1)))

pub returns-clause-number : goal.returns-clause-number
returns-clause-number c =
    c.bounded.ensures.number
    ∙ sym (number_by_range c.args.least c.args.most c.in-Ok.number c.args.word.now
    c.in-Ok.ensures.value.0.0.0 c.in-Ok.ensures.value.0.0.1 c.in-Ok.ensures.value.0.1)
