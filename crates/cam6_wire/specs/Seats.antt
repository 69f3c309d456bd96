-- The first line of a connection, which names the user that it asks for, and its answers.
use Rattle.std.specs.Prelude.{◌≡◌, ℕ, List, codes, if◌then◌else◌, Option, None, Result}
use Rattle.serde_json.specs.Data.{Data, object, no_members, member}
use Rattle.serde_json.specs.Written.{compact_text}
use Rattle.cam6_wire.specs.declared.faults.LineFault.{LineFault}
use Rattle.cam6_wire.specs.declared.seats.Seating.{Seating}
use Rattle.cam6_wire.specs.declared.seats.Seating.TheVariants.{Seated, Taken, NoUser}
use Rattle.cam6_wire.specs.Commands.{said_by}
use Rattle.cam6_wire.specs.Fields.{has_size, number_at}
use Rattle.cam6_wire.specs.Replies.{done, fault_then}
use Rattle.cam6_wire.specs.Numbers.{natural}

-- {"seat":u}
unfoldable pub seat_in : Data → Option ℕ
seat_in d = if has_size 1 d then number_at (codes "seat") d else None

-- the user that a line says, or its fault
abbrev pub seat : List ℕ → Result ℕ LineFault
seat = said_by seat_in

-- the value shows the seat of a user
abbrev pub ShowsSeat : Data → ℕ → Type 0
ShowsSeat d user = d ≡ object (member (codes "seat") (natural user) no_members)

-- the JSON value of an answer: fault 80 if the user already has a connection, 81 if there is no
-- such user
abbrev pub seating_data : Seating → Data
seating_data Seated = done (codes "seat") no_members
seating_data Taken = object (fault_then 80 no_members)
seating_data NoUser = object (fault_then 81 no_members)

-- the compact text of an answer
unfoldable pub seating_bytes : Seating → List ℕ
seating_bytes seating = compact_text (seating_data seating)
