use Rattle.cam6_table.proofs.Wants.{wants_values}
use Rattle.cam6_table.proofs.laws.a_word_wants_so_many_values.Goals as goal

pub returns : goal.returns
returns c = record { law = wants_values }
