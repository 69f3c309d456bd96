use Rattle.cam6_handoff_laws.proofs.Acting.{collected_is_given}
use Rattle.cam6_handoff_laws.proofs.laws.what_is_collected_is_the_reply.Goals as goal

pub returns : goal.returns
returns c = record { law = collected_is_given }
