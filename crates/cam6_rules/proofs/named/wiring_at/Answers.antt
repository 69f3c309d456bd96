use Rattle.std.proofs.Common.{◌∙◌, sym, ap, Some}
use Rattle.cam6_rules.specs.Internal.Numbered.{rules_of, wiring_at}
use Rattle.cam6_model.specs.Rules.{wiring_for}
use Rattle.cam6_rules.proofs.CompiledRules.{rule_found}
use Rattle.cam6_rules.proofs.named.wiring_at.Goals as goal

pub returns : goal.returns
returns c =
    let key = c.in_ok-rule.field-0-0 in
    let rule = c.in_ok-rule.rule in
    let entries = c.args.rules.now.entries in
    let number = c.in_ok-number.field-0 in
    ap Some c.wiring.ensures ∙
    sym (ap wiring_for
    (rule_found entries number (key.now, rule.now) c.in_ok-rule.ensures.entry)) ∙
    ap (wiring_at (rules_of entries)) (sym c.in_ok-number.was)
