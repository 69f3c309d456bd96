use Rattle.cam6_forth.proofs.TextLaws.{fault_stays}
use Rattle.cam6_forth.proofs.laws.a_fault_stays.Goals as goal

pub returns : goal.returns
returns c = record { law = fault_stays }
