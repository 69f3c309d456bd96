use Rattle.cam6_core.proofs.Agreement.{replies_agree}
use Rattle.cam6_core.proofs.laws.replies_depend_on_commands_alone.Goals as goal

pub returns : goal.returns
returns c = record { law = replies_agree }
