use Rattle.cam6_handoff.proofs.Resting.{each_rests}
use Rattle.cam6_handoff.proofs.laws.blank_desks_rest.Goals as goal

pub returns : goal.returns
returns c = record { law = each_rests }
