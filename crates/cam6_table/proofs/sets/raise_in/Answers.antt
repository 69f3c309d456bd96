use Rattle.std.proofs.Common.{arith}
use Rattle.cam6_table.proofs.ChosenValues.{value_in, value_out}
use Rattle.cam6_table.proofs.sets.raise_in.Goals as goal

pub returns-clause-inside : goal.returns-clause-inside
returns-clause-inside c = λ is fits.
    let by = value_in c.args.by c.args.set (omega arith) is in omega arith

pub returns-clause-outside : goal.returns-clause-outside
returns-clause-outside c = λ is.
    let by = value_out c.args.by c.args.set is in omega arith
