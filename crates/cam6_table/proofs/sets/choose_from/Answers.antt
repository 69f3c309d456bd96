use Rattle.cam6_table.proofs.ChosenValues.{both_in, first_none, second_none}
use Rattle.cam6_table.proofs.sets.choose_from.Goals as goal

pub returns-clause-inside : goal.returns-clause-inside
returns-clause-inside c = λ is low.
    c.choose.ensures.inside (both_in c.args.set c.in_if_from.result is (c.in_if_from.ensures.inside low))

pub returns-clause-under : goal.returns-clause-under
returns-clause-under c = λ is high.
    c.choose.ensures.outside (second_none c.args.set c.in_if_from.result (c.in_if_from.ensures.outside high))

pub returns-clause-outside : goal.returns-clause-outside
returns-clause-outside c = λ is.
    c.choose.ensures.outside (first_none c.args.set c.in_if_from.result is)
