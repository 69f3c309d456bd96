use Rattle.cam6_wire.proofs.LoadLines.{one_line_loads}
use Rattle.cam6_wire.proofs.laws.the_one_line_loads.Goals as goal

pub returns : goal.returns
returns c = record { law = one_line_loads }
