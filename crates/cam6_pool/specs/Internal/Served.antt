-- A seat whose looks go round all users, and a seat and its station while a worker serves a lease.
use Rattle.std.specs.Prelude.{ℕ, ◌≡◌, ◌<◌, ◌+◌, Option, Some, None}
use Rattle.cam6_board.specs.Jobs.{StoredJob}
use Rattle.cam6_commands.specs.declared.commands.Command.{Command}
use Rattle.cam6_handoff.specs.Holding.{BoardStance, Holding, nothing, holding, emptied}
use Rattle.cam6_handoff.specs.Seats.{TakeGives}
use Rattle.cam6_model.specs.Machine.{Machine}
use Rattle.cam6_slot.specs.Leases.{StoredLease, JobFits}
use Rattle.cam6_slot.specs.Lefts.{lease_left}
use Rattle.cam6_slot.specs.Stands.{Stands, StandsOut}
use Rattle.cam6_station.specs.Calls.{Rises}
use Rattle.cam6_station.specs.Held.{Manned, Stationed, idle, loaded, dead, is_dead, held_left}
use Rattle.cam6_pool.specs.Rounds.{next_user, IsNextUser}
use Rattle.cam6_pool.specs.Serving.{Serves}
use Rattle.cam6_pool.specs.declared.rounds.Round.{Round}

-- the user in turn is passed over and the seat is as it was; or it holds their place, leased, and
-- the row is that of the user after them
abbrev pub LooksAtNext : Round → Option (ℕ × StoredLease × StoredJob) → Round → Type 0
LooksAtNext old None new = new ≡ record old { passed = old.passed + 1 }
LooksAtNext old (Some taken) new =
    (taken.0 ≡ next_user old.seat.users old.row old.passed)
    × (new ≡ record old { seat = new.seat; row = taken.0 })
    × TakeGives old.seat taken.0 (Some (taken.1, taken.2)) new.seat

-- all users are passed over and the seat is as it was; or it holds the leased place of the next user
-- in turn, and the row is then that of the user after them
abbrev pub TakesNext : Round → Option (ℕ × StoredLease × StoredJob) → Round → Type 0
TakesNext old None new = new ≡ record old { passed = old.seat.users }
TakesNext old (Some taken) new =
    IsNextUser old.seat.users old.row (record { passed = new.passed; user = taken.0 })
    × (new.row ≡ taken.0)
    × TakeGives old.seat taken.0 (Some (taken.1, taken.2)) new.seat

-- a lease with its job, of which a band is left, and which stand for whatever the place stood for
abbrev pub Carries : Holding → StoredLease → StoredJob → Type 0
Carries nothing lease job = ⊥
Carries (holding user v) lease job =
    JobFits lease job × (0 < lease_left lease)
    × ((m : Machine) (c : Command) → Stands v m c → StandsOut lease job m c)

-- the station serves the seat, which is the same but for what it holds; the station is dead only if
-- its board failed
pub record ServesOn (seat : BoardStance) (station : Stationed) (later : BoardStance)
    (after : Stationed) : Type 0 where
  pub serves : Serves later.holds after.at
  pub alike : emptied later ≡ emptied seat
  pub faults : Rises (is_dead after.at) station.faults after.faults

-- how often the gate is asked at most, until the board is free
abbrev pub measure_of : Manned → ℕ
measure_of (loaded u h) = held_left h + 1
measure_of idle = 0
measure_of dead = 0
