use Rattle.cam6_session.proofs.Replaying.{answers_are_outcomes}
use Rattle.cam6_session.proofs.laws.answers_are_the_outcomes.Goals as goal

pub returns : goal.returns
returns c = record { law = answers_are_outcomes }
