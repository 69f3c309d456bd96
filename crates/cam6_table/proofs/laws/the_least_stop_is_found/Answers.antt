use Rattle.cam6_table.proofs.Stops.{least_is_found}
use Rattle.cam6_table.proofs.laws.the_least_stop_is_found.Goals as goal

pub returns : goal.returns
returns c = record { law = least_is_found }
