use Rattle.cam6_model.proofs.StepsByTables.{inverted_tables_undo}
use Rattle.cam6_model.proofs.laws.inverted_tables_undo_a_step.Goals as goal

pub returns : goal.returns
returns c = record { law = inverted_tables_undo }
