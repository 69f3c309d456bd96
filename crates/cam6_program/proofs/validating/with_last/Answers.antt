use Rattle.cam6_program.proofs.Packing.{last_taken, others_moved}
use Rattle.cam6_program.proofs.validating.with_last.Goals as goal

pub returns-clause-last : goal.returns-clause-last
returns-clause-last c = last_taken c.args.word c.args.entry c.from.result c.from.ensures

pub returns-clause-others : goal.returns-clause-others
returns-clause-others c = λ x h.
    others_moved c.args.word c.args.entry c.from.result x c.from.ensures h
