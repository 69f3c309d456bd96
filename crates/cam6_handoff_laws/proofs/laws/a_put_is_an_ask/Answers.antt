use Rattle.cam6_handoff_laws.proofs.Desks.{put_is_ask}
use Rattle.cam6_handoff_laws.proofs.laws.a_put_is_an_ask.Goals as goal

pub returns : goal.returns
returns c = record { law = put_is_ask }
