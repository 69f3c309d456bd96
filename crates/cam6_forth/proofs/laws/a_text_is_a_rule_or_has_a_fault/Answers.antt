use Rattle.cam6_forth.proofs.TextLaws.{rule_or_fault}
use Rattle.cam6_forth.proofs.laws.a_text_is_a_rule_or_has_a_fault.Goals as goal

pub returns : goal.returns
returns c = record { law = rule_or_fault }
