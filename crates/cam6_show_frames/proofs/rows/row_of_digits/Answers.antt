use Rattle.std.proofs.Common.{rules}
use Rattle.cam6_show_frames.proofs.Filled.{front_filled}
use Rattle.cam6_show_frames.proofs.rows.row_of_digits.Goals as goal

pub returns : goal.returns
returns c = search (rules, front_filled)
