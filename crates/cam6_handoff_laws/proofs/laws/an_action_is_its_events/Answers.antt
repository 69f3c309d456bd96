use Rattle.cam6_handoff_laws.proofs.Acting.{action_is_events}
use Rattle.cam6_handoff_laws.proofs.laws.an_action_is_its_events.Goals as goal

pub returns : goal.returns
returns c = record { law = action_is_events }
