use Rattle.cam6_handoff_laws.proofs.Beginning.{begins_at_fresh}
use Rattle.cam6_handoff_laws.proofs.laws.threads_begin_at_a_new_core.Goals as goal

pub returns : goal.returns
returns c = record { law = begins_at_fresh }
