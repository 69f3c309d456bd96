use Rattle.cam6_forth.proofs.TextLaws.{end_is_too_early}
use Rattle.cam6_forth.proofs.laws.an_end_with_a_fault_is_too_early.Goals as goal

pub returns : goal.returns
returns c = record { law = end_is_too_early }
