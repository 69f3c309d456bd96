use Rattle.cam6_planes.proofs.DigitsRead.{digits_read_back}
use Rattle.cam6_planes.proofs.laws.digits_are_read_back.Goals as goal

pub returns : goal.returns
returns c = record { law = digits_read_back }
