use Rattle.cam6_model.proofs.Recoveries.{recoveries_are_exact}
use Rattle.cam6_model.proofs.laws.recoveries_are_exact.Goals as goal

pub returns : goal.returns
returns c = record { law = recoveries_are_exact }
