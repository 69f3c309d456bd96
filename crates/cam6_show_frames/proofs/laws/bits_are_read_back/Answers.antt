use Rattle.cam6_show_frames.proofs.ReadBack.{bits_back}
use Rattle.cam6_show_frames.proofs.laws.bits_are_read_back.Goals as goal

pub returns : goal.returns
returns c = record { law = bits_back }
