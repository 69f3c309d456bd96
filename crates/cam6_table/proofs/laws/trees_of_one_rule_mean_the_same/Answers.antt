use Rattle.cam6_table.proofs.OneMeaning.{trees_mean_the_same}
use Rattle.cam6_table.proofs.laws.trees_of_one_rule_mean_the_same.Goals as goal

pub returns : goal.returns
returns c = record { law = trees_mean_the_same }
