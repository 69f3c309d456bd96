use Rattle.cam6_machine.proofs.Keeping.{kept_is_machine}
use Rattle.cam6_machine.proofs.laws.what_is_kept_is_a_machine.Goals as goal

pub returns : goal.returns
returns c = record { law = kept_is_machine }
