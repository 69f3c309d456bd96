use Rattle.cam6_saved.proofs.LinesOfMachines.{no_other_line_loads}
use Rattle.cam6_saved.proofs.laws.no_other_line_loads_a_machine.Goals as goal

pub returns : goal.returns
returns c = record { law = no_other_line_loads }
