use Rattle.std.proofs.Common.{◌∙◌, ap}
use Rattle.cam6_rules.specs.Internal.Numbered.{rules_of}
use Rattle.cam6_model.specs.Effects.{with_rule}
use Rattle.cam6_rules.proofs.CompiledRules.{rules_of-insert_entry}
use Rattle.cam6_rules.proofs.named.put.Goals as goal

pub returns-clause-ok : goal.returns-clause-ok
returns-clause-ok c =
    let entries = c.args.rules.now.entries in
    let rule = c.args.rule in
    ap rules_of c.in_ok-insert.ensures.entries ∙
    rules_of-insert_entry entries c.into_string.result rule ∙
    ap (λ name. with_rule (record { name = name; wiring = rule.wiring; text = rule.text })
    (rules_of entries)) c.into_string.ensures
