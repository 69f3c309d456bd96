use Rattle.cam6_model.proofs.Staying.{rules_run}
use Rattle.cam6_model.proofs.laws.the_rules_of_a_cycle_run.Goals as goal

pub returns : goal.returns
returns c = record { law = rules_run }
