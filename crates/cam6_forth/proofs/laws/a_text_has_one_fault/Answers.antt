use Rattle.cam6_forth.proofs.TextLaws.{one_fault}
use Rattle.cam6_forth.proofs.laws.a_text_has_one_fault.Goals as goal

pub returns : goal.returns
returns c = record { law = one_fault }
