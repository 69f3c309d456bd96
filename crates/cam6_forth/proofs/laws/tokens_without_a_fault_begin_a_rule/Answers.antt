use Rattle.cam6_forth.proofs.TextLaws.{can_be_completed}
use Rattle.cam6_forth.proofs.laws.tokens_without_a_fault_begin_a_rule.Goals as goal

pub returns : goal.returns
returns c = record { law = can_be_completed }
