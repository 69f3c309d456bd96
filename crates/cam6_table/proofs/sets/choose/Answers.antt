use Rattle.std.proofs.Common.{arith}
use Rattle.cam6_table.proofs.ChosenValues.{chosen_new, chosen_old}
use Rattle.cam6_table.proofs.sets.choose.Goals as goal

pub returns-clause-inside : goal.returns-clause-inside
returns-clause-inside c = λ is.
    chosen_new c.args.set c.args.new c.args.old (omega arith) is

pub returns-clause-outside : goal.returns-clause-outside
returns-clause-outside c = λ is.
    chosen_old c.args.set c.args.new c.args.old (omega arith) is
