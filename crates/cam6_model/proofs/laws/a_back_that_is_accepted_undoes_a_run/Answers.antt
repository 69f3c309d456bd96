use Rattle.cam6_block.proofs.Causes.{cause_is_found}
use Rattle.cam6_model.proofs.BackUndoes.{back_gives_back}
use Rattle.cam6_model.proofs.laws.a_back_that_is_accepted_undoes_a_run.Goals as goal

pub returns : goal.returns
returns c = record { law = back_gives_back cause_is_found }
