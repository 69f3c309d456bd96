use Rattle.cam6_model.proofs.BothWays.{keeps_its_planes}
use Rattle.cam6_model.proofs.laws.a_half_without_a_rule_keeps_its_planes.Goals as goal

pub returns : goal.returns
returns c = record { law = keeps_its_planes }
