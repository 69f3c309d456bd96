use Rattle.cam6_model.proofs.BothWays.{only_these}
use Rattle.cam6_model.proofs.laws.steps_change_planes_and_position_alone.Goals as goal

pub returns : goal.returns
returns c = record { law = only_these }
