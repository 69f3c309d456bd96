use Rattle.cam6_saved.proofs.LinesOfMachines.{one_text_one_machine}
use Rattle.cam6_saved.proofs.laws.one_text_is_of_one_machine.Goals as goal

pub returns : goal.returns
returns c = record { law = one_text_one_machine }
