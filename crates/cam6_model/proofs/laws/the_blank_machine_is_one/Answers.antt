use Rattle.cam6_model.proofs.Staying.{blank_is_machine}
use Rattle.cam6_model.proofs.laws.the_blank_machine_is_one.Goals as goal

pub returns : goal.returns
returns c = record { law = blank_is_machine }
