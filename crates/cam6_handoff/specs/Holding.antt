-- What a board's seat holds.
use Rattle.std.specs.Prelude.{◌≡◌, ℕ, List, Some}
use Rattle.std.specs.List.{slice_get}
use Rattle.cam6_slot.specs.Parking.{StoredQueued}

-- nothing, or the place that it took of a user
pub data Holding : Type 0 where
  nothing : Holding
  holding : ℕ → StoredQueued → Holding

-- the board's number, the number of users, what it holds, and the tables that it filled last
pub record BoardStance : Type 0 where
  pub number : ℕ
  pub users : ℕ
  pub holds : Holding
  pub tables : List (List ℕ)

abbrev pub IsIdle : BoardStance → Type 0
IsIdle b = b.holds ≡ nothing

-- each of these seats holds nothing
abbrev pub AreIdle : List BoardStance → Type 0
AreIdle seats = (i : ℕ) (seat : BoardStance) → slice_get seats i ≡ Some seat → IsIdle seat

abbrev pub emptied : BoardStance → BoardStance
emptied b = record b { holds = nothing }
