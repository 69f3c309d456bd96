use Rattle.cam6_model.proofs.RoundAndBack.{undoing_undoes}
use Rattle.cam6_model.proofs.laws.undoing_gives_the_machine_back.Goals as goal

pub returns : goal.returns
returns c = record { law = undoing_undoes }
