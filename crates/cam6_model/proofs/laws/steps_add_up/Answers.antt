use Rattle.cam6_model.proofs.BothWays.{moves_add_up}
use Rattle.cam6_model.proofs.laws.steps_add_up.Goals as goal

pub returns : goal.returns
returns c = record { law = moves_add_up }
