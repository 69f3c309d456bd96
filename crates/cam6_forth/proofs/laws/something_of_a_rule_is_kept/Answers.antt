use Rattle.cam6_forth.proofs.SomethingKept.{accepted_is_kept}
use Rattle.cam6_forth.proofs.laws.something_of_a_rule_is_kept.Goals as goal

pub returns : goal.returns
returns c = record { law = accepted_is_kept }
