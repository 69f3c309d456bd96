use Rattle.cam6_wire.proofs.Plain.{reply_is_line}
use Rattle.cam6_wire.proofs.laws.a_reply_is_one_line.Goals as goal

pub returns : goal.returns
returns c = record { law = reply_is_line }
