use Rattle.std.proofs.Common.{sym, rules}
use Rattle.cam6_rules.proofs.FirstCauses.{filled_is_accepted}
use Rattle.cam6_rules.proofs.tables.Tables.fill.Goals as goal

pub returns-then-eq-clause-refusal : goal.returns-then-eq-clause-refusal
returns-then-eq-clause-refusal c =
    sym (filled_is_accepted c.args.direction c.args.rules.now c.args.cycle.now c.args.self.now
    c.len-number.ensures.rules.own (search rules) c.requires)
