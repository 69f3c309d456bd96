use Rattle.std.proofs.Common.{rules, append_assoc}
use Rattle.cam6_show_pictures.proofs.netpbm.header.Goals as goal

pub returns : goal.returns
returns c = search (rules, append_assoc)
