use Rattle.cam6_planes.proofs.RowBytes.{bytes_have_its_digits}
use Rattle.cam6_planes.proofs.laws.a_rows_bytes_have_its_digits.Goals as goal

pub returns : goal.returns
returns c = record { law = bytes_have_its_digits }
