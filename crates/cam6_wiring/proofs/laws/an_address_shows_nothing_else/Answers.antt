use Rattle.cam6_wiring.proofs.LinesOfNames.{shows_nothing_else}
use Rattle.cam6_wiring.proofs.laws.an_address_shows_nothing_else.Goals as goal

pub returns : goal.returns
returns c = record { law = shows_nothing_else }
