use Rattle.cam6_forth.proofs.Singles.{known_is_single}
use Rattle.cam6_forth.proofs.laws.a_known_token_is_a_single_word.Goals as goal

pub returns : goal.returns
returns c = record { law = known_is_single }
