use Rattle.cam6_model.proofs.Recoveries.{recovery_is_exact}
use Rattle.cam6_model.proofs.laws.recovery_is_exact.Goals as goal

pub returns : goal.returns
returns c = record { law = recovery_is_exact }
