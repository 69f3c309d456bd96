use Rattle.cam6_model.proofs.SavedLaws.{saved_of_one}
use Rattle.cam6_model.proofs.laws.what_is_saved_is_of_one_machine.Goals as goal

pub returns : goal.returns
returns c = record { law = saved_of_one }
