use Rattle.cam6_session.proofs.Answering.{answers_are_replies}
use Rattle.cam6_session.proofs.laws.answers_are_the_replies.Goals as goal

pub returns : goal.returns
returns c = record { law = answers_are_replies }
