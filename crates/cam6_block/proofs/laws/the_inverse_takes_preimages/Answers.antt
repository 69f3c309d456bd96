use Rattle.cam6_block.proofs.Undoing.{takes_preimages}
use Rattle.cam6_block.proofs.laws.the_inverse_takes_preimages.Goals as goal

pub returns : goal.returns
returns c = record { law = takes_preimages }
