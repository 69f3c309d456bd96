use Rattle.cam6_model.proofs.RoundAndBack.{doing_redoes}
use Rattle.cam6_model.proofs.laws.doing_again_gives_the_machine_back.Goals as goal

pub returns : goal.returns
returns c = record { law = doing_redoes }
