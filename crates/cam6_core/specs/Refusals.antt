-- Where users and boards stand, and which events are refused there.
use Rattle.std.specs.Prelude.{ℕ, Bool, true, false, not, List, [], ◌∷◌, Option, Some, None}
use Rattle.std.specs.Prelude.{if◌then◌else◌}
use Rattle.std.specs.List.{slice_get}
use Rattle.std.specs.Option.{option_map}
use Rattle.cam6_cache.specs.Cached.{is_empty}
use Rattle.cam6_station.specs.Held.{Manned}
use Rattle.cam6_station.specs.Held as board
use Rattle.cam6_core.specs.State.{State, at_number}
use Rattle.cam6_core.specs.declared.parts.Whereabouts.{Whereabouts}
use Rattle.cam6_core.specs.declared.parts.Whereabouts.TheVariants as user
use Rattle.cam6_commands.specs.declared.events.Event.{Event}
use Rattle.cam6_commands.specs.declared.events.Event.TheVariants as event
use Rattle.cam6_commands.specs.declared.refused.Refused.{Refused}
use Rattle.cam6_commands.specs.declared.refused.Refused.TheVariants as why

-- where a user stands
pub data Status : Type 0 where
  resting : Status
  queued : Status
  out : Status
  finished : Status

-- where a board stands
pub data Posture : Type 0 where
  idle : Posture
  loaded : Posture
  dead : Posture

-- where each user and each board stands, `None` if there is no such user or board; and whether no
-- table is cached
pub record Standing : Type 0 where
  pub user : ℕ → Option Status
  pub board : ℕ → Option Posture
  pub no_table : Bool

abbrev pub status : Whereabouts → Status
status (user.Resting r) = resting
status (user.Queued q) = queued
status user.Out = out
status (user.Finished f) = finished

abbrev pub posture : Manned → Posture
posture board.idle = idle
posture (board.loaded u h) = loaded
posture board.dead = dead

abbrev pub standing : State → Standing
standing s = record {
  user = λ u. option_map status (at_number s.users u);
  board = λ b. option_map posture (slice_get s.boards b);
  no_table = is_empty s.cache.tables;
}

abbrev pub is_missing : {A : Type 0} → Option A → Bool
is_missing None = true
is_missing (Some x) = false

-- a command of the user was accepted, and its reply isn't collected yet; or there is no such user
abbrev pub is_waiting : Option Status → Bool
is_waiting (Some resting) = false
is_waiting s = true

abbrev pub is_queued : Option Status → Bool
is_queued (Some queued) = true
is_queued s = false

abbrev pub is_finished : Option Status → Bool
is_finished (Some finished) = true
is_finished s = false

abbrev pub is_idle : Option Posture → Bool
is_idle (Some idle) = true
is_idle p = false

abbrev pub is_loaded : Option Posture → Bool
is_loaded (Some loaded) = true
is_loaded p = false

abbrev pub is_dead : Option Posture → Bool
is_dead (Some dead) = true
is_dead p = false

-- the first reason with a condition that holds
abbrev pub first : List (Bool × Refused) → Option Refused
first [] = None
first (reason ∷ later) = if reason.0 then Some reason.1 else first later

-- why an event that needs a loaded board is refused, if it is
abbrev pub loaded_refusal : Option Posture → Option Refused
loaded_refusal p = first
    ((is_missing p, why.NoSuchNumber) ∷ (is_dead p, why.BoardIsDead)
    ∷ (not (is_loaded p), why.BoardHoldsNothing) ∷ [])

-- why an event is refused, if it is
abbrev pub refusal : Standing → Event → Option Refused
refusal s (event.Ask u c) = first
    ((is_missing (s.user u), why.NoSuchNumber) ∷ (is_waiting (s.user u), why.UserIsWaiting) ∷ [])
refusal s (event.Lease u b) = first
    ((is_missing (s.user u), why.NoSuchNumber) ∷ (is_missing (s.board b), why.NoSuchNumber)
    ∷ (is_dead (s.board b), why.BoardIsDead) ∷ (not (is_idle (s.board b)), why.BoardIsNotIdle)
    ∷ (not (is_queued (s.user u)), why.UserIsNotQueued) ∷ [])
refusal s (event.Band b) = loaded_refusal (s.board b)
refusal s (event.Preempt b) = loaded_refusal (s.board b)
refusal s (event.Fail b) = first
    ((is_missing (s.board b), why.NoSuchNumber) ∷ (is_dead (s.board b), why.BoardIsDead) ∷ [])
refusal s (event.Repair b) = first
    ((is_missing (s.board b), why.NoSuchNumber)
    ∷ (not (is_dead (s.board b)), why.BoardIsNotDead) ∷ [])
refusal s event.Evict = first ((s.no_table, why.NoTableIsCached) ∷ [])
refusal s (event.Collect u) = first
    ((is_missing (s.user u), why.NoSuchNumber)
    ∷ (not (is_finished (s.user u)), why.NothingIsFinished) ∷ [])
