use Rattle.cam6_table.proofs.Stops.{none_is_found}
use Rattle.cam6_table.proofs.laws.no_stop_is_found.Goals as goal

pub returns : goal.returns
returns c = record { law = none_is_found }
