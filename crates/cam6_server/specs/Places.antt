-- Users' desks, and a place for each.
use Rattle.std.specs.Prelude.{◌≡◌, ℕ, zero, suc, List, Option, Some, None, Result, Ok, Err}
use Rattle.std.specs.Prelude.{slice_get, slice_set}
use Rattle.cam6_handoff.specs.Standing.{Stance, IsDeskOf, IsResting}
use Rattle.cam6_wire.specs.declared.seats.Seating.{Seating}
use Rattle.cam6_wire.specs.declared.seats.Seating.TheVariants.{Seated, Taken, NoUser}

-- a user's desk, which doesn't wait: whatever was asked at it has been answered
pub record IsFreeDeskOf (user : ℕ) (desk : Stance) : Type 0 where
  pub own : IsDeskOf user desk
  pub rests : IsResting desk

-- the desks of the users 1, 2 and so on, each of which may be asked
abbrev pub AreOwnDesks : List Stance → Type 0
AreOwnDesks desks =
    (i : ℕ) (desk : Stance) → slice_get desks i ≡ Some desk → IsFreeDeskOf (suc i) desk

-- each place has its user's desk, or `None` if somebody sits at it
abbrev pub AreAtTheirPlaces : List (Option Stance) → Type 0
AreAtTheirPlaces places =
    (i : ℕ) (desk : Stance) → slice_get places i ≡ Some (Some desk) → IsFreeDeskOf (suc i) desk

-- users are numbered from 1, places from 0
abbrev pub place_of : List (Option Stance) → ℕ → Option (Option Stance)
place_of places zero = None
place_of places (suc n) = slice_get places n

-- at the user's place stands this, and at the others what stood there
abbrev pub with_user : List (Option Stance) → ℕ → Option Stance → List (Option Stance)
with_user places zero place = places
with_user places (suc n) place = slice_set places n place

-- the user's desk is taken from its place
pub record TakesDesk (old : List (Option Stance)) (user : ℕ) (desk : Stance)
    (new : List (Option Stance)) : Type 0 where
  pub there : place_of old user ≡ Some (Some desk)
  pub free : IsFreeDeskOf user desk
  pub gone : new ≡ with_user old user None

-- the user's desk is taken; or nothing is changed, as somebody has it, or there is no such user
abbrev pub Takes : List (Option Stance) → ℕ → Result Stance Seating → List (Option Stance) → Type 0
Takes old user (Ok desk) new = TakesDesk old user desk new
Takes old user (Err Taken) new = (place_of old user ≡ Some None) × (new ≡ old)
Takes old user (Err NoUser) new = (place_of old user ≡ None) × (new ≡ old)
Takes old user (Err Seated) new = ⊥

-- the desk is at the place of the user whose it is
abbrev pub GivesBack : List (Option Stance) → Stance → List (Option Stance) → Type 0
GivesBack old desk new = (user : ℕ) → IsDeskOf user desk → new ≡ with_user old user (Some desk)
