use Rattle.cam6_model.proofs.Commanded.{stays_machine}
use Rattle.cam6_model.proofs.laws.a_machine_stays_one.Goals as goal

pub returns : goal.returns
returns c = record { law = stays_machine }
