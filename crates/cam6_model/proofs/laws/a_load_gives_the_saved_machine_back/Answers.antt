use Rattle.cam6_model.proofs.SavedLaws.{load_gives_back}
use Rattle.cam6_model.proofs.laws.a_load_gives_the_saved_machine_back.Goals as goal

pub returns : goal.returns
returns c = record { law = load_gives_back }
