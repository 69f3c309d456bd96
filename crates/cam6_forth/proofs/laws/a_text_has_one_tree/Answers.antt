use Rattle.cam6_forth.proofs.OneTree.{tree_is_read}
use Rattle.cam6_forth.proofs.laws.a_text_has_one_tree.Goals as goal

pub returns : goal.returns
returns c = record { law = tree_is_read }
