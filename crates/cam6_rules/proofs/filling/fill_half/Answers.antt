use Rattle.cam6_rules.proofs.Causes.{no_cause_if_filled}
use Rattle.cam6_rules.proofs.filling.fill_half.Goals as goal

pub returns-in-Some-clause-reversible : goal.returns-in-Some-clause-reversible
returns-in-Some-clause-reversible c =
    no_cause_if_filled c.args.direction c.args.rules.now c.args.needed.now c.args.index
    c.fill_use.new.tables c.args.rule c.fill_use.result c.requires.use_of c.fill_use.ensures.tables
