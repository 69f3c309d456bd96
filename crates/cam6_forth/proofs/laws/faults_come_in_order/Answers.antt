use Rattle.cam6_forth.proofs.FaultOrders.{faults_in_order}
use Rattle.cam6_forth.proofs.laws.faults_come_in_order.Goals as goal

pub returns : goal.returns
returns c = record { law = faults_in_order }
