-- Desks and seats at the beginning.
use Rattle.std.specs.Prelude.{◌≡◌, ℕ, suc, List, length, Some}
use Rattle.std.specs.List.{slice_get}
use Rattle.cam6_planes.specs.declared.sides.Side.{Side}
use Rattle.cam6_handoff.specs.Desks.{IsBlankDesk}
use Rattle.cam6_handoff.specs.Standing.{Stance}
use Rattle.cam6_handoff.specs.Holding.{BoardStance, IsIdle}

-- the first n users, counted from 1, have a desk each, in order, at the blank machine of their limit
pub record AreBlankDesksTo (n : ℕ) (limits : List Side) (desks : List Stance) : Type 0 where
  pub long : length desks ≡ n
  pub each : (i : ℕ) (limit : Side) (desk : Stance) → slice_get limits i ≡ Some limit →
      slice_get desks i ≡ Some desk → IsBlankDesk (suc i) limit desk

abbrev pub AreBlankDesks : List Side → List Stance → Type 0
AreBlankDesks limits desks = AreBlankDesksTo (length limits) limits desks

-- the seat of a board that holds nothing, among so many users
pub record IsSeatOf (board count : ℕ) (seat : BoardStance) : Type 0 where
  pub number : seat.number ≡ board
  pub users : seat.users ≡ count
  pub idle : IsIdle seat

-- so many boards have a seat each, in order, which holds nothing
pub record AreIdleSeats (boards users : ℕ) (seats : List BoardStance) : Type 0 where
  pub long : length seats ≡ boards
  pub each : (i : ℕ) (seat : BoardStance) → slice_get seats i ≡ Some seat → IsSeatOf i users seat
