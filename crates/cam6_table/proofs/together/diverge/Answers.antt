use Rattle.std.proofs.Common.{subst}
use Rattle.cam6_table.specs.Internal.Lanes.{IsNext}
use Rattle.cam6_table.proofs.together.diverge.Goals as goal

pub returns-in-SkipIfZero-clause-left : goal.returns-in-SkipIfZero-clause-left
returns-in-SkipIfZero-clause-left c =
    c.part_at_if.ensures.left
    (subst (λ i. IsNext c.args.code.now c.args.flow.now.remaining i) c.in-SkipIfZero.is
    c.before-2.ensures) c.requires.left

pub returns-in-Case-clause-left : goal.returns-in-Case-clause-left
returns-in-Case-clause-left c = c.part_at_case.ensures.left c.args.addresses.now c.requires.left
