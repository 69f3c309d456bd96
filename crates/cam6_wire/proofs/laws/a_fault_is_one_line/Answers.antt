use Rattle.cam6_wire.proofs.Plain.{fault_is_line}
use Rattle.cam6_wire.proofs.laws.a_fault_is_one_line.Goals as goal

pub returns : goal.returns
returns c = record { law = fault_is_line }
