use Rattle.cam6_wire.proofs.LoadLines.{one_text_one_saved}
use Rattle.cam6_wire.proofs.laws.one_text_is_of_one_saved_machine.Goals as goal

pub returns : goal.returns
returns c = record { law = one_text_one_saved }
