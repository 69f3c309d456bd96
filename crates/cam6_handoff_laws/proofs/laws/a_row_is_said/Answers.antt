use Rattle.cam6_handoff_laws.proofs.Said.{row_is_said}
use Rattle.cam6_handoff_laws.proofs.laws.a_row_is_said.Goals as goal

pub returns : goal.returns
returns c = record { law = λ words homes views u row m is. row_is_said row m is }
