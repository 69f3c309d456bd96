-- The event of a step: what it does to the step's user.
use Rattle.std.specs.Prelude.{◌≡◌, ◌<◌, ℕ, suc, Bool, Some, None}
use Rattle.std.specs.List.{slice_get}
use Rattle.atomic_table.specs.Table.{Step}
use Rattle.cam6_commands.specs.declared.commands.Command.{Command}
use Rattle.cam6_commands.specs.declared.events.Event.{Event}
use Rattle.cam6_commands.specs.declared.outcomes.Outcome.{Outcome}
use Rattle.cam6_model.specs.Machine.{Machine}
use Rattle.cam6_slot.specs.Lefts.{bands_of, queued_left, queued_home, home_after}
use Rattle.cam6_slot.specs.Parking.{StoredQueued}
use Rattle.cam6_slot.specs.Stands.{Stands}
use Rattle.cam6_core.specs.Model.{Model, User, Seat, user, machine_of, transition}
use Rattle.cam6_core.specs.Refusals.{refusal}
use Rattle.cam6_core.specs.Runs.{model_standing}
use Rattle.cam6_core.specs.State.{at_number}
use Rattle.cam6_handoff.specs.Rule.{Slot}
use Rattle.cam6_handoff_laws.specs.Says.{Says}

-- the user of a word: words are numbered from 0, and users from 1
abbrev pub user_of : Step Slot → ℕ
user_of step = suc step.word

-- the model has this user, and this at a board
abbrev pub HasUser : Model → ℕ → User → Type 0
HasUser a u p = at_number a.users u ≡ Some p

abbrev pub HasSeat : Model → ℕ → Seat → Type 0
HasSeat a b s = slice_get a.boards b ≡ Some s

-- the event isn't refused, this is its outcome, and after it the word and what is in the slot say
-- where the user is
pub record LeadsTo (a : Model) (e : Event) (r : Outcome) (u word : ℕ) (slot : Slot) : Type 0 where
  pub accepted : (no_table : Bool) → refusal (model_standing a no_table) e ≡ None
  pub comes : (transition a e).1 ≡ r
  pub says : Says (machine_of (user (transition a e).0.users u)) word slot (user (transition a e).0.users u).stage

-- the same, and this is at a board after it
pub record LeadsAt (a : Model) (e : Event) (r : Outcome) (u word : ℕ) (slot : Slot) (b : ℕ) (s : Seat)
    : Type 0 where
  pub leads : LeadsTo a e r u word slot
  pub seat : HasSeat (transition a e).0 b s

-- a place with which a command of a machine begins to wait: all of its bands are left, one at least
pub record IsBegun (q : StoredQueued) (m : Machine) (c : Command) : Type 0 where
  pub stands : Stands q m c
  pub some : 0 < bands_of m c
  pub left : queued_left q ≡ bands_of m c
  pub home : queued_home q ≡ bands_of m c

-- a place as it is taken off a board; a step has `bands` bands, `then` bands were left then, and
-- `base` from home; no band is lost, and after a whole step all that is done is at home
pub record IsTakenOff (bands then base : ℕ) (q : StoredQueued) : Type 0 where
  pub left : queued_left q ≡ then
  pub home : queued_home q ≡ home_after bands then base

-- a place as it comes from its home, while so many bands were left from there: what isn't at home is to
-- be done again
pub record IsFromHome (base : ℕ) (q : StoredQueued) : Type 0 where
  pub left : queued_left q ≡ base
  pub home : queued_home q ≡ base
