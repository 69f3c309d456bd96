use Rattle.cam6_board.proofs.Following.{bands_follow}
use Rattle.cam6_board.proofs.laws.a_band_follows_the_machine.Goals as goal

pub returns : goal.returns
returns c = record { law = bands_follow }
