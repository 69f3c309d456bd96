use Rattle.std.proofs.Common.{◌∙◌, ap}
use Rattle.cam6_rules.specs.Internal.Numbered.{rules_of}
use Rattle.cam6_model.specs.Effects.{without_rule}
use Rattle.cam6_rules.proofs.CompiledRules.{rules_of-remove_entry}
use Rattle.cam6_rules.proofs.named.remove.Goals as goal

pub returns : goal.returns
returns c =
    let entries = c.args.rules.now.entries in
    ap rules_of c.shift_remove.ensures.entries ∙
    rules_of-remove_entry c.as_str.result.now entries ∙
    ap (λ name. without_rule name (rules_of entries)) c.as_str.ensures.text
