use Rattle.cam6_block.proofs.Undoing.{corners_agree}
use Rattle.cam6_block.proofs.laws.corners_that_show_one_address_agree.Goals as goal

pub returns : goal.returns
returns c = record { law = corners_agree }
