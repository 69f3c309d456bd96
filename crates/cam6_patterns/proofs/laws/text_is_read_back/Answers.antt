use Rattle.cam6_patterns.proofs.TextRead.{text_is_read_back}
use Rattle.cam6_patterns.proofs.laws.text_is_read_back.Goals as goal

pub returns : goal.returns
returns c = record { law = text_is_read_back }
