use Rattle.cam6_block.proofs.Undoing.{only_one}
use Rattle.cam6_block.proofs.laws.there_is_one_inverse.Goals as goal

pub returns : goal.returns
returns c = record { law = only_one }
