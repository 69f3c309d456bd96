use Rattle.cam6_block.proofs.Undoing.{undoes}
use Rattle.cam6_block.proofs.laws.the_inverse_gives_blocks_back.Goals as goal

pub returns : goal.returns
returns c = record { law = undoes }
