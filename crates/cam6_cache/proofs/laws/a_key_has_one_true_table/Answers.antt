use Rattle.cam6_cache.proofs.TrueTables.{only_table}
use Rattle.cam6_cache.proofs.laws.a_key_has_one_true_table.Goals as goal

pub returns : goal.returns
returns c = record { law = only_table }
