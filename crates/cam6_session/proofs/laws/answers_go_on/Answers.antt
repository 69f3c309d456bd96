use Rattle.cam6_session.proofs.Answering.{answers_go_on}
use Rattle.cam6_session.proofs.laws.answers_go_on.Goals as goal

pub returns : goal.returns
returns g c = record { law = answers_go_on g.A.Answerer.answering }
