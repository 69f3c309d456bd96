use Rattle.cam6_table.proofs.TrueTables.{runs_everywhere}
use Rattle.cam6_table.proofs.laws.a_rule_that_stops_at_no_address_runs.Goals as goal

pub returns : goal.returns
returns c = record { law = runs_everywhere }
