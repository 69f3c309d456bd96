use Rattle.cam6_model.proofs.SavedLaws.{loaded_answers_alike}
use Rattle.cam6_model.proofs.laws.a_loaded_machine_answers_alike.Goals as goal

pub returns : goal.returns
returns c = record { law = loaded_answers_alike }
