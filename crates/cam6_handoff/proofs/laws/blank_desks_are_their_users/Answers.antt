use Rattle.cam6_handoff.proofs.Resting.{each_is_its_users}
use Rattle.cam6_handoff.proofs.laws.blank_desks_are_their_users.Goals as goal

pub returns : goal.returns
returns c = record { law = each_is_its_users }
