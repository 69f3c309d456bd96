use Rattle.cam6_block.proofs.Causes.{cause_is_found}
use Rattle.cam6_model.proofs.ReversibleCycles.{back_needs}
use Rattle.cam6_model.proofs.laws.a_back_needs_rules_that_can_be_undone.Goals as goal

pub returns : goal.returns
returns c = record { law = back_needs cause_is_found }
