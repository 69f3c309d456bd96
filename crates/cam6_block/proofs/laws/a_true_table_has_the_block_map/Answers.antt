use Rattle.cam6_block.proofs.Undoing.{true_table_map}
use Rattle.cam6_block.proofs.laws.a_true_table_has_the_block_map.Goals as goal

pub returns : goal.returns
returns c = record { law = true_table_map }
