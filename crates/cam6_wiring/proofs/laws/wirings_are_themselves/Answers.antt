use Rattle.cam6_wiring.proofs.SameWirings.{wirings_are_themselves}
use Rattle.cam6_wiring.proofs.laws.wirings_are_themselves.Goals as goal

pub returns : goal.returns
returns c = record { law = wirings_are_themselves }
