use Rattle.std.proofs.Common.{◌∙◌, sym, true, false}
use Rattle.cam6_rules.specs.Numbers.{named_entries}
use Rattle.cam6_rules.specs.Internal.Numbered.{rules_of}
use Rattle.cam6_rules.proofs.Naming.{dropped_numbered, dropped_none}
use Rattle.cam6_rules.proofs.refusals.accept_drop.Goals as goal

pub returns-in-Some-clause-refusal : goal.returns-in-Some-clause-refusal
returns-in-Some-clause-refusal c =
    sym (dropped_numbered (rules_of c.args.rules.now.entries) c.args.cycle.now c.args.name.now
    c.in-Some.number true c.requires.names (sym c.rule_number.ensures ∙ c.in-Some.is)
    c.if-is_used.ensures)

pub returns-in-Some-2-clause-refusal : goal.returns-in-Some-2-clause-refusal
returns-in-Some-2-clause-refusal c =
    sym (dropped_numbered (rules_of c.args.rules.now.entries) c.args.cycle.now c.args.name.now
    c.in-Some.number false c.requires.names (sym c.rule_number.ensures ∙ c.in-Some.is)
    c.if-is_used.ensures)

pub returns-in-None-clause-refusal : goal.returns-in-None-clause-refusal
returns-in-None-clause-refusal c =
    let rules = rules_of c.args.rules.now.entries in
    sym (dropped_none rules (named_entries rules c.args.cycle.now) c.args.name.now
    (sym c.rule_number.ensures ∙ c.in-None.is))
