use Rattle.cam6_handoff_laws.proofs.Said.{status_is_words}
use Rattle.cam6_handoff_laws.proofs.laws.a_word_is_a_status.Goals as goal

pub returns : goal.returns
returns c = record { law = status_is_words }
