use Rattle.cam6_handoff_laws.proofs.Boards.{take_is_lease}
use Rattle.cam6_handoff_laws.proofs.laws.a_take_is_a_lease.Goals as goal

pub returns : goal.returns
returns c = record { law = take_is_lease }
