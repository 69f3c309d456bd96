use Rattle.cam6_forth.proofs.FaultOrders.{one_between}
use Rattle.cam6_forth.proofs.laws.at_most_one_fault_comes_between.Goals as goal

pub returns : goal.returns
returns c = record { law = one_between }
