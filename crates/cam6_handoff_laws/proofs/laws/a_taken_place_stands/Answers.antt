use Rattle.cam6_handoff_laws.proofs.Holding.{taken_place_stands}
use Rattle.cam6_handoff_laws.proofs.laws.a_taken_place_stands.Goals as goal

pub returns : goal.returns
returns c = record { law = taken_place_stands }
