use Rattle.cam6_wire.proofs.Plain.{seating_is_line}
use Rattle.cam6_wire.proofs.laws.a_seating_is_one_line.Goals as goal

pub returns : goal.returns
returns c = record { law = seating_is_line }
