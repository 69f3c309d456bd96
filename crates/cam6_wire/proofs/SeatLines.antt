-- A line says the seat of a user exactly where its value shows it.
use Rattle.std.proofs.Common.{◌≡◌, ℕ, codes, Some, IfSome, refl, ap, ◌∙◌}
use Rattle.std.proofs.lemmas.Option.{IfSome_then}
use Rattle.serde_json.specs.Data.{Data, object, Members, no_members, member}
use Rattle.cam6_wire.specs.Fields.{count, number_at}
use Rattle.cam6_wire.specs.Numbers.{natural}
use Rattle.cam6_wire.specs.Seats.{seat_in, ShowsSeat}
use Rattle.cam6_wire.specs.Laws.{ShownSeatIsSaid, SaidSeatIsShown}
use Rattle.cam6_wire.proofs.Ordered.{IsOrdered}
use Rattle.cam6_wire.proofs.Exactly.{these}
use Rattle.cam6_wire.proofs.Found.{number_found, of_object}
use Rattle.cam6_wire.proofs.Saying.{is_said, is_shown}

seat_held : (held : Members) → count held ≡ 1 → IsOrdered (object held) →
    IfSome (number_at (codes "seat") (object held)) (ShowsSeat (object held))
seat_held held same ordered =
    IfSome_then (number_at (codes "seat") (object held))
    (number_found (codes "seat") (object held))
    (λ user at.
    these (member (codes "seat") (natural user) no_members) held (tt, tt) same ordered (at, tt))

seat_shown : (d : Data) → IsOrdered d → IfSome (seat_in d) (ShowsSeat d)
unfolding seat_in
seat_shown d ordered =
    of_object 1 (number_at (codes "seat")) IsOrdered ShowsSeat seat_held d ordered

pub said_seat_is_shown : SaidSeatIsShown
said_seat_is_shown = is_shown seat_in ShowsSeat seat_shown

shows_itself : (user : ℕ) →
    seat_in (object (member (codes "seat") (natural user) no_members)) ≡ Some user
unfolding seat_in
shows_itself user = refl

pub shown_seat_is_said : ShownSeatIsSaid
shown_seat_is_said line d user within is shows =
    is_said seat_in line d user within is (ap seat_in shows ∙ shows_itself user)
