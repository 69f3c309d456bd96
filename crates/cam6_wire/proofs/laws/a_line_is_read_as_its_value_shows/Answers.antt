use Rattle.cam6_wire.proofs.Telling.{shown_is_said}
use Rattle.cam6_wire.proofs.laws.a_line_is_read_as_its_value_shows.Goals as goal

pub returns : goal.returns
returns c = record { law = shown_is_said }
