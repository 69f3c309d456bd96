use Rattle.cam6_forth.proofs.OneTree.{one_tree}
use Rattle.cam6_forth.proofs.laws.trees_spelled_alike_are_one.Goals as goal

pub returns : goal.returns
returns c = record { law = one_tree }
