use Rattle.cam6_model.proofs.StepsByTables.{true_tables_step}
use Rattle.cam6_model.proofs.laws.true_tables_step_as_words_do.Goals as goal

pub returns : goal.returns
returns c = record { law = true_tables_step }
