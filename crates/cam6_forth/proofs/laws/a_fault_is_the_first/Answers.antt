use Rattle.cam6_forth.proofs.TextLaws.{fault_is_first}
use Rattle.cam6_forth.proofs.laws.a_fault_is_the_first.Goals as goal

pub returns : goal.returns
returns c = record { law = fault_is_first }
