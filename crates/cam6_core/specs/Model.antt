-- What events do to users and boards. The model has no image, job, table or cache.
use Rattle.std.specs.Prelude.{ℕ, ◌-◌, ◌==◌, List, [], ◌∷◌, Option, Some, None, slice_set}
use Rattle.std.specs.Prelude.{if◌then◌else◌}
use Rattle.std.specs.List.{slice_get}
use Rattle.cam6_planes.specs.declared.sides.Side.{Side}
use Rattle.cam6_planes.specs.declared.sides.Side.TheVariants.{S128}
use Rattle.cam6_commands.specs.declared.commands.Command.{Command}
use Rattle.cam6_model.specs.Alone.{reply}
use Rattle.cam6_model.specs.Machine.{Machine}
use Rattle.cam6_slot.specs.Lefts.{bands_of_step, bands_of, home_after}
use Rattle.cam6_core.specs.History.{alone}
use Rattle.cam6_core.specs.State.{at_number, with_number}
use Rattle.cam6_commands.specs.declared.events.Event.{Event}
use Rattle.cam6_commands.specs.declared.events.Event.TheVariants as event
use Rattle.cam6_commands.specs.declared.outcomes.Outcome.{Outcome}
use Rattle.cam6_commands.specs.declared.outcomes.Outcome.TheVariants as outcome
use Rattle.cam6_commands.specs.declared.refused.Refused.TheVariants.{NoSuchNumber}

-- where a user's command is; while it is queued, how many bands are left, and how many from home
pub data Stage : Type 0 where
  resting : Stage
  queued : Command → ℕ → ℕ → Stage
  out : ℕ → Command → Stage
  finished : Command → Stage

-- a board; while it is loaded its user, how many bands are left, and how many from home
pub data Seat : Type 0 where
  idle : Seat
  loaded : ℕ → ℕ → ℕ → Seat
  dead : Seat

-- the limit of a user's machine, the commands with collected replies, the newest first, and where
-- the next command is
pub record User : Type 0 where
  pub limit : Side
  pub done : List Command
  pub stage : Stage

pub record Model : Type 0 where
  pub users : List User
  pub boards : List Seat

-- a user who has asked for nothing; `user` gives one also for a number that no user has
abbrev pub newcomer : Side → User
newcomer limit = record { limit = limit; done = []; stage = resting }

abbrev pub or_nobody : Option User → User
or_nobody None = newcomer S128
or_nobody (Some p) = p

abbrev pub user : List User → ℕ → User
user us u = or_nobody (at_number us u)

abbrev pub or_none : Option Seat → Seat
or_none None = dead
or_none (Some s) = s

abbrev pub seat : List Seat → ℕ → Seat
seat bs b = or_none (slice_get bs b)

-- a user's machine, before the command that the user waits for
abbrev pub machine_of : User → Machine
machine_of p = alone p.limit p.done

abbrev pub at_stage : User → Stage → User
at_stage p stage = record p { stage = stage }

-- a command of no bands is finished at once
abbrev pub begun : Command → ℕ → Stage
begun c bands = if bands == 0 then finished c else queued c bands bands

-- the stage after the last band, and the one in which the command waits for a board again
abbrev pub over : Stage → Stage
over (out b c) = finished c
over s = s

abbrev pub back : ℕ → ℕ → Stage → Stage
back left home (out b c) = queued c left home
back left home s = s

module _ (a : Model) where
  abbrev pub with_user : ℕ → User → Model
  with_user u p = record a { users = with_number a.users u p }

  abbrev pub with_both : ℕ → User → ℕ → Seat → Model
  with_both u p b s = record {
    users = with_number a.users u p;
    boards = slice_set a.boards b s;
  }

  abbrev pub with_seat : ℕ → Seat → Model
  with_seat b s = record a { boards = slice_set a.boards b s }

  -- this case doesn't arise, as the event is refused
  abbrev pub stays : Model × Outcome
  stays = (a, outcome.Refused NoSuchNumber)

  abbrev pub ask : ℕ → Command → User → Stage → Model × Outcome
  ask u c p resting =
      let bands = bands_of (machine_of p) c in
      (with_user u (at_stage p (begun c bands)), outcome.Asked bands)
  ask u c p s = stays

  abbrev pub lease : ℕ → ℕ → User → Stage → Model × Outcome
  lease u b p (queued c left home) =
      (with_both u (at_stage p (out b c)) b (loaded u left home), outcome.Leased left)
  lease u b p s = stays

  -- the last band frees the board and finishes the user's command
  abbrev pub band : ℕ → Seat → Model × Outcome
  band b (loaded u left home) =
      let p = user a.users u in
      if left == 1
      then (with_both u (at_stage p (over p.stage)) b idle, outcome.Banded 0)
      else (with_seat b (loaded u (left - 1) home), outcome.Banded (left - 1))
  band b s = stays

  -- after a whole step, home is there, so the command goes on from there even after a failure
  abbrev pub preempt : ℕ → Seat → Model × Outcome
  preempt b (loaded u left home) =
      let p = user a.users u in
      let bands = bands_of_step (machine_of p).side in (
        with_both u (at_stage p (back left (home_after bands left home) p.stage)) b idle,
        outcome.Preempted left,
      )
  preempt b s = stays

  -- the user's command goes back to its home
  abbrev pub fail : ℕ → Seat → Model × Outcome
  fail b (loaded u left home) =
      let p = user a.users u in
      (with_both u (at_stage p (back home home p.stage)) b dead, outcome.Failed (Some home))
  fail b idle = (with_seat b dead, outcome.Failed None)
  fail b dead = stays

  abbrev pub collect : ℕ → User → Stage → Model × Outcome
  collect u p (finished c) = (
    with_user u (record p { done = c ∷ p.done; stage = resting }),
    outcome.Collected (reply (machine_of p) c),
  )
  collect u p s = stays

-- users and boards after an event that isn't refused, and its outcome
abbrev pub transition : Model → Event → Model × Outcome
transition a (event.Ask u c) = ask a u c (user a.users u) (user a.users u).stage
transition a (event.Lease u b) = lease a u b (user a.users u) (user a.users u).stage
transition a (event.Band b) = band a b (seat a.boards b)
transition a (event.Preempt b) = preempt a b (seat a.boards b)
transition a (event.Fail b) = fail a b (seat a.boards b)
transition a (event.Repair b) = (with_seat a b idle, outcome.Repaired)
transition a event.Evict = (a, outcome.Evicted)
transition a (event.Collect u) = collect a u (user a.users u) (user a.users u).stage
