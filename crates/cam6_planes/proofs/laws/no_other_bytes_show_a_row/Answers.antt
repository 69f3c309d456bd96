use Rattle.cam6_planes.proofs.RowBytes.{no_others_show_it}
use Rattle.cam6_planes.proofs.laws.no_other_bytes_show_a_row.Goals as goal

pub returns : goal.returns
returns c = record { law = no_others_show_it }
