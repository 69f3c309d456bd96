-- Events one after another.
use Rattle.std.specs.Prelude.{◌≡◌, Bool, true, false, List, [], ◌∷◌, Option, Some, None, ⊤}
use Rattle.std.specs.Prelude.{if◌then◌else◌}
use Rattle.std.specs.List.{slice_get}
use Rattle.std.specs.Option.{option_map}
use Rattle.cam6_commands.specs.declared.events.Event.{Event}
use Rattle.cam6_commands.specs.declared.events.Event.TheVariants as event
use Rattle.cam6_commands.specs.declared.outcomes.Outcome.{Outcome}
use Rattle.cam6_commands.specs.declared.outcomes.Outcome.TheVariants.{NoMemory, Refused}
use Rattle.cam6_commands.specs.declared.refused.Refused.{Refused as Reason}
use Rattle.cam6_model.specs.Memory.{may_want_memory}
use Rattle.cam6_core.specs.State.{State, at_number}
use Rattle.cam6_core.specs.Refusals.{Status, Posture, Standing, refusal}
use Rattle.cam6_core.specs.Refusals as stands
use Rattle.cam6_core.specs.Model.{Stage, resting, queued, out, finished, Seat, idle, loaded, dead}
use Rattle.cam6_core.specs.Model.{User, user, Model, machine_of, transition}
use Rattle.cam6_core.specs.Good.{Good}
use Rattle.cam6_core.specs.Goes.{Goes, LoadsTables, Spares}

-- an outcome is neither a refusal nor `NoMemory`
abbrev pub accepted : Outcome → Bool
accepted NoMemory = false
accepted (Refused reason) = false
accepted r = true

-- where a user of the model stands, and where a board does
abbrev pub status_of : Stage → Status
status_of resting = stands.resting
status_of (queued c left home) = stands.queued
status_of (out b c) = stands.out
status_of (finished c) = stands.finished

abbrev pub posture_of : Seat → Posture
posture_of idle = stands.idle
posture_of (loaded u left home) = stands.loaded
posture_of dead = stands.dead

-- where all users and boards of the model stand, with a cache that is empty or not
abbrev pub model_standing : Model → Bool → Standing
model_standing a no_table = record {
  user = λ u. option_map (λ (p : User). status_of p.stage) (at_number a.users u);
  board = λ b. option_map posture_of (slice_get a.boards b);
  no_table = no_table;
}

-- an ask may need memory, by the user's private machine, and no other event
abbrev pub MayWantMemory : Model → Event → Type 0
MayWantMemory a (event.Ask u c) = may_want_memory (machine_of (user a.users u)) c ≡ true
MayWantMemory a e = ⊥

-- the outcome of an event that is refused for this reason, or isn't refused
abbrev pub AnswersAs : Option Reason → Model → Event → Outcome → Type 0
AnswersAs (Some reason) a e r = r ≡ Refused reason
AnswersAs None a e NoMemory = MayWantMemory a e
AnswersAs None a e (Refused reason) = ⊥
AnswersAs None a e r = r ≡ (transition a e).1

-- the outcome of an event is the model's, with a cache that is empty or not
abbrev pub IsTheModels : Model → Event → Outcome → Type 0
IsTheModels a e r =
    (no_table : Bool) × AnswersAs (refusal (model_standing a no_table) e) a e r

-- the model after an event with this outcome
abbrev pub after_one : Model → Event → Outcome → Model
after_one a e r = if accepted r then (transition a e).0 else a

-- the model after events with these outcomes
unfoldable pub after_all : Model → List Event → List Outcome → Model
after_all a [] rs = a
after_all a (e ∷ es) [] = a
after_all a (e ∷ es) (r ∷ rs) = after_all (after_one a e r) es rs

-- the outcome of each event is the model's after the events before it
unfoldable pub AreTheModels : Model → List Event → List Outcome → Type 0
AreTheModels a [] [] = ⊤
AreTheModels a [] (r ∷ rs) = ⊥
AreTheModels a (e ∷ es) [] = ⊥
AreTheModels a (e ∷ es) (r ∷ rs) = IsTheModels a e r × AreTheModels (after_one a e r) es rs

-- the events go one after another, each by `Goes`, `LoadsTables` and `Spares`
unfoldable pub GoThrough : State → List Event → List Outcome → State → Type 0
GoThrough old [] [] new = new ≡ old
GoThrough old [] (r ∷ rs) new = ⊥
GoThrough old (e ∷ es) [] new = ⊥
GoThrough old (e ∷ es) (r ∷ rs) new =
    (mid : State) × Goes old e r mid × LoadsTables e r old mid × Spares e old mid
    × GoThrough mid es rs new

-- whatever model the core agreed with, the outcomes of the events are the model's, with the bands
-- that are left, and the core agrees with the model after them
abbrev pub Counts : State → List Event → List Outcome → State → Type 0
Counts old es rs new =
    (a : Model) → Good old a → AreTheModels a es rs × Good new (after_all a es rs)
