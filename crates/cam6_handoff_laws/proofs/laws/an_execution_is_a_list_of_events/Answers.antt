use Rattle.cam6_handoff_laws.proofs.Executing.{execution_is_events}
use Rattle.cam6_handoff_laws.proofs.laws.an_execution_is_a_list_of_events.Goals as goal

pub returns : goal.returns
returns c = record { law = execution_is_events }
