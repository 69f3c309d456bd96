use Rattle.cam6_show_frames.proofs.ReadBack.{colours_back}
use Rattle.cam6_show_frames.proofs.laws.colours_are_read_back.Goals as goal

pub returns : goal.returns
returns c = record { law = colours_back }
