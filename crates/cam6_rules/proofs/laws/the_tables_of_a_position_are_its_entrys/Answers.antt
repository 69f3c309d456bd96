use Rattle.cam6_rules.proofs.TablesOfPositions.{tables_by_use}
use Rattle.cam6_rules.proofs.laws.the_tables_of_a_position_are_its_entrys.Goals as goal

pub returns : goal.returns
returns c = record { law = tables_by_use }
