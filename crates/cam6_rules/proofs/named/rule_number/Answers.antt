use Rattle.std.proofs.Common.{◌∙◌, ap}
use Rattle.cam6_rules.specs.Internal.Numbered.{rules_of, rule_number}
use Rattle.cam6_rules.proofs.CompiledRules.{rule_number-rules_of}
use Rattle.cam6_rules.proofs.named.rule_number.Goals as goal

pub returns : goal.returns
returns c =
    c.get_index_of.ensures.index ∙ rule_number-rules_of c.as_str.result.now c.args.rules.now.entries ∙
    ap (λ name. rule_number name (rules_of c.args.rules.now.entries)) c.as_str.ensures.text
