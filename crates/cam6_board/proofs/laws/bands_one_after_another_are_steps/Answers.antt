use Rattle.cam6_board.proofs.WholeSteps.{bands_are_steps}
use Rattle.cam6_board.proofs.laws.bands_one_after_another_are_steps.Goals as goal

pub returns : goal.returns
returns c = record { law = bands_are_steps }
