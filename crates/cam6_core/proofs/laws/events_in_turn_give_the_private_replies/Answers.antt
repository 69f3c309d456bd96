use Rattle.cam6_core.proofs.Agreement.{enough}
use Rattle.cam6_core.proofs.laws.events_in_turn_give_the_private_replies.Goals as goal

pub returns : goal.returns
returns c = record { law = enough }
