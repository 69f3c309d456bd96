use Rattle.cam6_wiring.proofs.LinesOfNames.{shows_what_is_seen}
use Rattle.cam6_wiring.proofs.laws.an_address_shows_what_is_seen.Goals as goal

pub returns : goal.returns
returns c = record { law = shows_what_is_seen }
