use Rattle.cam6_lookup.proofs.Lanes.{more_first, more_others}
use Rattle.cam6_lookup.proofs.look_up.one_more.Goals as goal

pub returns-clause-first : goal.returns-clause-first
returns-clause-first c = more_first c.args.word c.args.four

pub returns-clause-others : goal.returns-clause-others
returns-clause-others c = more_others c.args.word c.args.four
