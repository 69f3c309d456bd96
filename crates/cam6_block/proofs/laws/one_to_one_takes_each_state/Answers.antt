use Rattle.cam6_block.proofs.Pigeonhole.{takes_each}
use Rattle.cam6_block.proofs.laws.one_to_one_takes_each_state.Goals as goal

pub returns : goal.returns
returns c = record { law = takes_each }
