use Rattle.cam6_table.proofs.RuleTexts.{filled_is_of_the_text}
use Rattle.cam6_table.proofs.laws.code_that_filled_a_table_is_its_texts.Goals as goal

pub returns : goal.returns
returns c = record { law = filled_is_of_the_text }
