use Rattle.cam6_wire.proofs.RuleTexts.{said_has_text}
use Rattle.cam6_wire.proofs.laws.a_rules_text_is_utf8.Goals as goal

pub returns : goal.returns
returns c = record { law = said_has_text }
