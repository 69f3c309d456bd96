use Rattle.cam6_table.proofs.Moving.{kept_untouched}
use Rattle.cam6_table.proofs.levels.join_levels.Goals as goal

pub returns-then-from-to-2-clause-low : goal.returns-then-from-to-2-clause-low
returns-then-from-to-2-clause-low c = λ lane below inside stands.
    kept_untouched c.args.lanes.now c.lower_stacks.new.lanes lane c.args.to
    (c.lower_stacks.ensures.outside lane below (c.requires.apart lane below inside)) stands

pub returns-else-from-to-2-clause-high : goal.returns-else-from-to-2-clause-high
returns-else-from-to-2-clause-high c = λ lane below inside stands.
    kept_untouched c.args.lanes.now c.raise_stacks.new.lanes lane c.args.from
    (c.raise_stacks.ensures.outside lane below (c.requires.under lane below inside)) stands
