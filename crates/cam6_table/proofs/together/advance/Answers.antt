use Rattle.cam6_table.proofs.together.advance.Goals as goal

pub diverge-requires-clause-left : goal.diverge-requires-clause-left
diverge-requires-clause-left c = c.go_straight.ensures.left c.args.places.now c.requires.left

pub returns-then-flow-clause-left : goal.returns-then-flow-clause-left
returns-then-flow-clause-left c = c.go_straight.ensures.left c.args.places.now c.requires.left
