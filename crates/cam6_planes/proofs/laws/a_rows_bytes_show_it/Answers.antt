use Rattle.cam6_planes.proofs.RowBytes.{bytes_show_the_row}
use Rattle.cam6_planes.proofs.laws.a_rows_bytes_show_it.Goals as goal

pub returns : goal.returns
returns c = record { law = bytes_show_the_row }
