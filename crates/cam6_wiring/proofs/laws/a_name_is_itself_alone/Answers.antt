use Rattle.cam6_wiring.proofs.Named.{itself_alone}
use Rattle.cam6_wiring.proofs.laws.a_name_is_itself_alone.Goals as goal

pub returns : goal.returns
returns c = record { law = itself_alone }
