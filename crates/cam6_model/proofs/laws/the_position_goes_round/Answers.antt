use Rattle.cam6_model.proofs.BothWays.{goes_round}
use Rattle.cam6_model.proofs.laws.the_position_goes_round.Goals as goal

pub returns : goal.returns
returns c = record { law = goes_round }
