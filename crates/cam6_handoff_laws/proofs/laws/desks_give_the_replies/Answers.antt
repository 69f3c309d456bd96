use Rattle.cam6_handoff_laws.proofs.Executing.{desks_give_the_replies}
use Rattle.cam6_handoff_laws.proofs.laws.desks_give_the_replies.Goals as goal

pub returns : goal.returns
returns c = record { law = desks_give_the_replies }
