use Rattle.cam6_table.proofs.TrueTables.{true_table}
use Rattle.cam6_table.proofs.laws.a_true_table_is_the_rule.Goals as goal

pub returns : goal.returns
returns c = record { law = true_table }
