use Rattle.cam6_wiring.proofs.Named.{lines_are_named}
use Rattle.cam6_wiring.proofs.laws.lines_are_named.Goals as goal

pub returns : goal.returns
returns c = record { law = lines_are_named }
