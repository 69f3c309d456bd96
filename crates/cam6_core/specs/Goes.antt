-- One event.
use Rattle.std.specs.Prelude.{ℕ, ◌≡◌, ◌≢◌, Option, Some, None, true, ⊤}
use Rattle.std.specs.List.{slice_get}
use Rattle.cam6_cache.specs.Cached.{Cached, without_last}
use Rattle.cam6_commands.specs.declared.commands.Command.{Command}
use Rattle.cam6_machine.specs.Stored.{machine_of}
use Rattle.cam6_model.specs.Memory.{may_want_memory}
use Rattle.cam6_station.specs.Held.{Manned, loaded}
use Rattle.cam6_station.specs.Loading.{IsAfterLoads}
use Rattle.cam6_core.specs.State.{State, at_number}
use Rattle.cam6_core.specs.Refusals.{standing, refusal}
use Rattle.cam6_core.specs.Model.{Model, transition}
use Rattle.cam6_core.specs.Good.{Good}
use Rattle.cam6_core.specs.declared.parts.Whereabouts.{Whereabouts}
use Rattle.cam6_core.specs.declared.parts.Whereabouts.TheVariants.{Resting, Queued}
use Rattle.cam6_commands.specs.declared.events.Event.{Event}
use Rattle.cam6_commands.specs.declared.events.Event.TheVariants as event
use Rattle.cam6_commands.specs.declared.outcomes.Outcome.{Outcome}
use Rattle.cam6_commands.specs.declared.outcomes.Outcome.TheVariants.{NoMemory, Refused, Leased}
use Rattle.cam6_commands.specs.declared.refused.Refused.{Refused as Reason}

-- a command of a user at rest may need memory
abbrev pub MayWant : Option Whereabouts → Command → Type 0
MayWant (Some (Resting r)) c = may_want_memory (machine_of r) c ≡ true
MayWant x c = ⊥

-- an ask may need memory, and no other event
abbrev pub WantsMemory : State → Event → Type 0
WantsMemory s (event.Ask u c) = MayWant (at_number s.users u) c
WantsMemory s e = ⊥

-- whatever model the core agreed with, the outcome of the event is the model's, and the core agrees
-- with the model after the event
abbrev pub Moves : State → Event → Outcome → State → Type 0
Moves old e r new =
    (a : Model) → Good old a → (r ≡ (transition a e).1) × Good new (transition a e).0

-- an event that isn't refused: if it may need memory, it may run out of memory, and then nothing
-- changes
abbrev pub Takes : State → Event → Outcome → State → Type 0
Takes old e NoMemory new = WantsMemory old e × (new ≡ old)
Takes old e (Refused reason) new = ⊥
Takes old e r new = Moves old e r new

-- a refused event has its reason as outcome and changes nothing
abbrev pub Obeys : Option Reason → State → Event → Outcome → State → Type 0
Obeys (Some reason) old e r new = (r ≡ Refused reason) × (new ≡ old)
Obeys None old e r new = Takes old e r new

abbrev pub Goes : State → Event → Outcome → State → Type 0
Goes old e r new = Obeys (refusal (standing old) e) old e r new

-- a lease asks for the tables that the user's command needs, in the order of their uses
abbrev pub LoadsFor : Option Whereabouts → Cached → Cached → Type 0
LoadsFor (Some (Queued q)) old new = IsAfterLoads q.work old new
LoadsFor x old new = ⊥

-- a lease does so; nothing is said here about any other event
abbrev pub LoadsTables : Event → Outcome → State → State → Type 0
LoadsTables (event.Lease u b) (Leased left) old new =
    LoadsFor (at_number old.users u) old.cache new.cache
LoadsTables e r old new = ⊤

-- all users but one are as they were
abbrev pub SparesUsersBut : ℕ → State → State → Type 0
SparesUsersBut u old new = (v : ℕ) → v ≢ u → at_number new.users v ≡ at_number old.users v

-- all boards but one are as they were
abbrev pub SparesBoardsBut : ℕ → State → State → Type 0
SparesBoardsBut b old new = (d : ℕ) → d ≢ b → slice_get new.boards d ≡ slice_get old.boards d

-- if a board is loaded for a user, all other users are as they were; if not, all users are
abbrev pub SparesOthers : Option Manned → State → State → Type 0
SparesOthers (Some (loaded u h)) old new = SparesUsersBut u old new
SparesOthers y old new = new.users ≡ old.users

-- which users and boards an event leaves as they were, and what it does to the cache
abbrev pub Spares : Event → State → State → Type 0
Spares (event.Ask u c) old new =
    SparesUsersBut u old new × (new.boards ≡ old.boards) × (new.cache ≡ old.cache)
Spares (event.Lease u b) old new =
    SparesUsersBut u old new × SparesBoardsBut b old new
    × (new.cache.capacity ≡ old.cache.capacity)
Spares (event.Band b) old new =
    SparesOthers (slice_get old.boards b) old new × SparesBoardsBut b old new
    × (new.cache ≡ old.cache)
Spares (event.Preempt b) old new =
    SparesOthers (slice_get old.boards b) old new × SparesBoardsBut b old new
    × (new.cache ≡ old.cache)
Spares (event.Fail b) old new =
    SparesOthers (slice_get old.boards b) old new × SparesBoardsBut b old new
    × (new.cache ≡ old.cache)
Spares (event.Repair b) old new =
    (new.users ≡ old.users) × SparesBoardsBut b old new × (new.cache ≡ old.cache)
Spares event.Evict old new =
    (new.users ≡ old.users) × (new.boards ≡ old.boards)
    × (new.cache ≡ without_last old.cache)
Spares (event.Collect u) old new =
    SparesUsersBut u old new × (new.boards ≡ old.boards) × (new.cache ≡ old.cache)
