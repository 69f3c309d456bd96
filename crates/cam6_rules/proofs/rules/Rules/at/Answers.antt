use Rattle.std.proofs.Common.{List, Some, refl, sym, subst}
use Rattle.cam6_model.specs.Rules.{Rule}
use Rattle.cam6_rules.specs.Compiled.{IsKeptAs}
use Rattle.std.proofs.Common.{slice_get}
use Rattle.cam6_rules.proofs.CompiledRules.{rule_found}
use Rattle.cam6_rules.proofs.rules.Rules.at.Goals as goal

pub returns : goal.returns
returns c =
    let name = c.in_ok-rule.field-0-0.now in
    let rule = c.in_ok-rule.rule.now in
    let entries = c.self.inside.by_name.entries in
    subst (λ (rules : List Rule). IsKeptAs (slice_get rules c.args.number) (Some rule))
    c.self.view_is
    (subst (λ found. IsKeptAs found (Some rule))
    (sym (rule_found entries c.args.number (name, rule) c.in_ok-rule.ensures.entry))
    (refl, refl))
