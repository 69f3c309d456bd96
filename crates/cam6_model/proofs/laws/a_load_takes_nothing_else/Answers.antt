use Rattle.cam6_model.proofs.SavedLaws.{load_takes_saved}
use Rattle.cam6_model.proofs.laws.a_load_takes_nothing_else.Goals as goal

pub returns : goal.returns
returns c = record { law = load_takes_saved }
