use Rattle.cam6_wire.proofs.LoadLines.{load_has_one_line}
use Rattle.cam6_wire.proofs.laws.a_load_has_one_line.Goals as goal

pub returns : goal.returns
returns c = record { law = load_has_one_line }
