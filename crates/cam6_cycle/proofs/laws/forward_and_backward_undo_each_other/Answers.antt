use Rattle.cam6_cycle.proofs.RoundTheCycle.{ways_undo_each_other}
use Rattle.cam6_cycle.proofs.laws.forward_and_backward_undo_each_other.Goals as goal

pub returns : goal.returns
returns c = record { law = ways_undo_each_other }
