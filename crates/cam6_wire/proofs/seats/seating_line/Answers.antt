use Rattle.std.proofs.Common.{◌++◌, [], ◌∷◌, ap, sym}
use Rattle.serde_json.proofs.OnLiterals.{serde_json_on_literals}
use Rattle.std.specs.Fmt.{digits}
use Rattle.cam6_wire.specs.declared.seats.Seating.{Seating}
use Rattle.cam6_wire.specs.Seats.{seating_bytes}
use Rattle.cam6_wire.proofs.seats.seating_line.Goals as goal

pub returns-in-Seated : goal.returns-in-Seated
unfolding serde_json_on_literals seating_bytes digits
returns-in-Seated c = sym (ap (λ (s : Seating). seating_bytes s ++ 10 ∷ []) c.in-Seated.is)

pub returns-in-Taken : goal.returns-in-Taken
unfolding serde_json_on_literals seating_bytes digits
returns-in-Taken c = sym (ap (λ (s : Seating). seating_bytes s ++ 10 ∷ []) c.in-Taken.is)

pub returns-in-NoUser : goal.returns-in-NoUser
unfolding serde_json_on_literals seating_bytes digits
returns-in-NoUser c = sym (ap (λ (s : Seating). seating_bytes s ++ 10 ∷ []) c.in-NoUser.is)
