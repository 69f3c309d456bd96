use Rattle.cam6_board.proofs.Counting.{each_band_is_one_less}
use Rattle.cam6_board.proofs.laws.each_band_leaves_one_less.Goals as goal

pub returns : goal.returns
returns c = record { law = each_band_is_one_less }
