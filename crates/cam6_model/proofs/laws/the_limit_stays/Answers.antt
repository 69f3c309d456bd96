use Rattle.cam6_model.proofs.Commanded.{limit_stays}
use Rattle.cam6_model.proofs.laws.the_limit_stays.Goals as goal

pub returns : goal.returns
returns c = record { law = limit_stays }
