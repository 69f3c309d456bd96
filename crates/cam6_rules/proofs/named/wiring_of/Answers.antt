use Rattle.std.proofs.Common.{◌∙◌, sym, ap, option_map, Some}
use Rattle.std.specs.Option.{option_copied}
use Rattle.cam6_rules.specs.Internal.Numbered.{rules_of}
use Rattle.cam6_model.specs.Rules.{wiring_of}
use Rattle.cam6_rules.specs.declared.compiled.CompiledRule.{CompiledRule}
use Rattle.cam6_rules.proofs.CompiledRules.{rule_named-rules_of}
use Rattle.cam6_rules.proofs.named.wiring_of.Goals as goal

pub returns-in-Some : goal.returns-in-Some
returns-in-Some c =
    let entries = c.args.rules.now.entries in
    ap Some c.wiring.ensures ∙
    sym (ap (λ o. option_map (λ (r : CompiledRule). r.wiring) (option_copied o)) c.in-Some.is) ∙
    ap (option_map (λ (r : CompiledRule). r.wiring)) c.get.ensures.value ∙
    rule_named-rules_of c.as_str.result.now entries ∙
    ap (λ name. wiring_of name (rules_of entries)) c.as_str.ensures.text

pub returns-in-None : goal.returns-in-None
returns-in-None c =
    let entries = c.args.rules.now.entries in
    sym (ap (λ o. option_map (λ (r : CompiledRule). r.wiring) (option_copied o)) c.in-None.is) ∙
    ap (option_map (λ (r : CompiledRule). r.wiring)) c.get.ensures.value ∙
    rule_named-rules_of c.as_str.result.now entries ∙
    ap (λ name. wiring_of name (rules_of entries)) c.as_str.ensures.text
