use Rattle.cam6_saved.proofs.LinesOfMachines.{line_gives_back}
use Rattle.cam6_saved.proofs.laws.a_machines_line_gives_it_back.Goals as goal

pub returns : goal.returns
returns c = record { law = line_gives_back }
