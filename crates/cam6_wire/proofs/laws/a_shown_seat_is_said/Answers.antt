use Rattle.cam6_wire.proofs.SeatLines.{shown_seat_is_said}
use Rattle.cam6_wire.proofs.laws.a_shown_seat_is_said.Goals as goal

pub returns : goal.returns
returns c = record { law = shown_seat_is_said }
