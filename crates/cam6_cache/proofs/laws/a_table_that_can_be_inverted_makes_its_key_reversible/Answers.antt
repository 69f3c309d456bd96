use Rattle.cam6_cache.proofs.TrueTables.{makes_reversible}
use Rattle.cam6_cache.proofs.laws.a_table_that_can_be_inverted_makes_its_key_reversible.Goals as goal

pub returns : goal.returns
returns c = record { law = makes_reversible }
