use Rattle.cam6_wire.proofs.SeatLines.{said_seat_is_shown}
use Rattle.cam6_wire.proofs.laws.a_read_seat_has_its_value.Goals as goal

pub returns : goal.returns
returns c = record { law = said_seat_is_shown }
