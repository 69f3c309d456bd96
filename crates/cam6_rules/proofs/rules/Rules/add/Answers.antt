use Rattle.std.proofs.Common.{◌≡◌, ◌∙◌, Option, Some, None, false, is_some, refl, sym}
use Rattle.cam6_model.specs.Rules.{rule_named}
use Rattle.cam6_model.proofs.LoadedRules.{goes_last, is_after}
use Rattle.cam6_rules.proofs.rules.Rules.add.Goals as goal

nothing : {A : Type 0} (o : Option A) → is_some o ≡ false → o ≡ None
nothing None e = refl
nothing (Some a) e = cc e

pub returns-in-Ok-clause-rules : goal.returns-in-Ok-clause-rules
returns-in-Ok-clause-rules c =
    let rules = c.args.self.now in
    let new : rule_named c.args.rule.name rules ≡ None =
    nothing (rule_named c.args.rule.name rules) (sym c.has_name.ensures ∙ c.if-has_name.false) in (
      is_after rules c.args.rule new c.in-Ok.ensures.refusal,
      c.in-Ok.ensures.rules ∙ goes_last c.args.rule rules new,
    )
