use Rattle.cam6_model.proofs.StepsByBlocks.{step_changes_blocks}
use Rattle.cam6_model.proofs.laws.a_step_changes_blocks.Goals as goal

pub returns : goal.returns
returns c = record { law = step_changes_blocks }
