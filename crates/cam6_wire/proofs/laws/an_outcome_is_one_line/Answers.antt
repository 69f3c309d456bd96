use Rattle.cam6_wire.proofs.Plain.{outcome_is_line}
use Rattle.cam6_wire.proofs.laws.an_outcome_is_one_line.Goals as goal

pub returns : goal.returns
returns c = record { law = outcome_is_line }
