use Rattle.std.proofs.Common.{arith}
use Rattle.cam6_table.proofs.ChosenValues.{kept_in, limit_out}
use Rattle.cam6_table.proofs.sets.limit_in.Goals as goal

pub returns-clause-low : goal.returns-clause-low
returns-clause-low c = λ is low.
    let limit = kept_in c.args.limit c.args.set is in omega arith

pub returns-clause-high : goal.returns-clause-high
returns-clause-high c = λ is high.
    let limit = kept_in c.args.limit c.args.set is in omega arith

pub returns-clause-outside : goal.returns-clause-outside
returns-clause-outside c = λ is.
    let limit = limit_out c.args.limit c.args.set is in omega arith
