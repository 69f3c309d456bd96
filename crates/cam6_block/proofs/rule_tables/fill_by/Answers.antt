use Rattle.cam6_block.proofs.RuleTables.{undoes_the_text, refused_for_its_cause, not_refused}
use Rattle.cam6_block.proofs.rule_tables.fill_by.Goals as goal

pub returns-in-Backward-clause-table : goal.returns-in-Backward-clause-table
returns-in-Backward-clause-table c =
    undoes_the_text c.args.wiring c.args.code.now c.fill_forward-in-Backward.new.table
    c.fill_forward-in-Backward.ensures.whole c.fill_forward-in-Backward.ensures.entries c.args.direction c.in-Backward.is c.invert.result
    c.invert.new.out c.invert.ensures.reversible c.invert.ensures.inverted

pub returns-in-Backward-clause-refused : goal.returns-in-Backward-clause-refused
returns-in-Backward-clause-refused c =
    refused_for_its_cause c.args.wiring c.args.code.now c.fill_forward-in-Backward.new.table
    c.fill_forward-in-Backward.ensures.whole c.fill_forward-in-Backward.ensures.entries c.args.direction c.in-Backward.is c.invert.result
    c.invert.ensures.refused

pub returns-in-Backward-clause-ok : goal.returns-in-Backward-clause-ok
returns-in-Backward-clause-ok c =
    not_refused c.args.wiring c.args.code.now c.fill_forward-in-Backward.new.table
    c.fill_forward-in-Backward.ensures.whole c.fill_forward-in-Backward.ensures.entries c.invert.result c.invert.ensures.refused
