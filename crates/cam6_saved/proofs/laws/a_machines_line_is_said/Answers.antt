use Rattle.cam6_saved.proofs.LinesOfMachines.{line_is_said}
use Rattle.cam6_saved.proofs.laws.a_machines_line_is_said.Goals as goal

pub returns : goal.returns
returns c = record { law = line_is_said }
