use Rattle.cam6_block.proofs.Causes.{cause_is_found}
use Rattle.cam6_block.proofs.laws.a_refusal_has_its_cause.Goals as goal

pub returns : goal.returns
returns c = record { law = cause_is_found }
