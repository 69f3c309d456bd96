use Rattle.std.proofs.Common.{◌∙◌, sym, ap, Some}
use Rattle.cam6_rules.specs.Internal.Numbered.{rules_of}
use Rattle.cam6_rules.specs.Numbers.{rule_at, number_in, name_of}
use Rattle.cam6_rules.proofs.CompiledRules.{rule_found, no_rule_found}
use Rattle.cam6_rules.proofs.saving.name_at.Goals as goal

pub returns-in_ok-from_str-in-Some-get_index : goal.returns-in_ok-from_str-in-Some-get_index
returns-in_ok-from_str-in-Some-get_index c =
    let entries = c.args.rules.now.entries in
    let number = c.in-Some.rule.number in
    let found = c.in-Some-get_index in
    ap Some (c.new.ensures ∙ c.in_ok-from_str-in-Some-get_index.ensures.ok ∙ c.as_str.ensures.value) ∙
    sym (ap name_of
    (rule_found entries number (found.name.now, found.field-0-1.now) found.ensures.entry)) ∙
    ap (λ o. name_of (rule_at (rules_of entries) (number_in o))) (sym c.in-Some.is)

pub returns-in-None : goal.returns-in-None
returns-in-None c =
    let entries = c.args.rules.now.entries in
    sym (ap name_of (no_rule_found entries c.in-Some.rule.number c.in-None.ensures.entry)) ∙
    ap (λ o. name_of (rule_at (rules_of entries) (number_in o))) (sym c.in-Some.is)
