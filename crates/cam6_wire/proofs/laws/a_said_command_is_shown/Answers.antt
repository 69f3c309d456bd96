use Rattle.cam6_wire.proofs.Showing.{said_is_shown}
use Rattle.cam6_wire.proofs.laws.a_said_command_is_shown.Goals as goal

pub returns : goal.returns
returns c = record { law = said_is_shown }
