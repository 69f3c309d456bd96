use Rattle.cam6_rules.proofs.MovesByTables.{true_tables_move}
use Rattle.cam6_rules.proofs.laws.true_tables_move_a_machine.Goals as goal

pub returns : goal.returns
returns c = record { law = true_tables_move }
