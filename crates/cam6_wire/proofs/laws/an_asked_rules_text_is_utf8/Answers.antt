use Rattle.cam6_wire.proofs.RuleTexts.{asked_has_text}
use Rattle.cam6_wire.proofs.laws.an_asked_rules_text_is_utf8.Goals as goal

pub returns : goal.returns
returns c = record { law = asked_has_text }
