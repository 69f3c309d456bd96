-- Laws of all threads of a host, over the whole hand-off table: whatever they do, in whatever
-- order, is a list of events of the core.
use Rattle.std.specs.Prelude.{◌≡◌, ◌<◌, ℕ, suc, ◌+◌, List, length, Some}
use Rattle.cam6_planes.specs.declared.sides.Side.{Side}
use Rattle.cam6_commands.specs.declared.commands.Command.{Command}
use Rattle.cam6_commands.specs.declared.outcomes.Outcome.{Outcome}
use Rattle.cam6_commands.specs.declared.replies.Reply.{Reply}
use Rattle.cam6_model.specs.Alone.{replies}
use Rattle.cam6_model.specs.Machine.{blank}
use Rattle.cam6_slot.specs.Parking.{StoredQueued}
use Rattle.cam6_slot.specs.Stands.{Stands}
use Rattle.cam6_core.specs.Fresh.{fresh}
use Rattle.cam6_core.specs.Headline.{AreGiven}
use Rattle.cam6_core.specs.Model.{Model, out, user, machine_of}
use Rattle.cam6_core.specs.State.{at_number}
use Rattle.cam6_handoff.specs.Rule.{At}
use Rattle.cam6_handoff.specs.declared.rule.View.TheVariants.{Holds}
use Rattle.cam6_handoff.specs.Desks.{CollectGives}
use Rattle.cam6_handoff.specs.Standing.{standing, waiting}
use Rattle.cam6_handoff_laws.specs.Actions.{Action, Acts, Collects}
use Rattle.cam6_handoff_laws.specs.Configurations.{Configuration, IsAtModel, WordIs}
use Rattle.cam6_handoff_laws.specs.Executions.{events_of, put_by, told_by, events_in, put_in, told_in}
use Rattle.cam6_handoff_laws.specs.Executions.{Executes, Begins, AreEvents}

-- if the threads are where a model is, an action is its events: it brings the threads to where these
-- events bring the model
abbrev pub ActionIsEvents : Type 0
ActionIsEvents =
    (users : ℕ) (k next : Configuration) (a : Model) (action : Action) → IsAtModel users k a →
    Acts users k action next →
    (rs : List Outcome)
    × AreEvents users a (events_of action) rs (λ u. put_by u action) (λ u. told_by u action) next

-- at the beginning the threads are where the model of a new core is
abbrev pub BeginsAtFresh : Type 0
BeginsAtFresh =
    (limits : List Side) (boards : ℕ) (k : Configuration) → Begins limits boards k →
    IsAtModel (length limits) k (fresh limits boards)

-- all actions from the beginning on are one list of events of a new core
abbrev pub ExecutionIsEvents : Type 0
ExecutionIsEvents =
    (limits : List Side) (boards : ℕ) (k end : Configuration) (actions : List Action) →
    Begins limits boards k → Executes (length limits) k actions end →
    (rs : List Outcome)
    × AreEvents (length limits) (fresh limits boards) (events_in actions) rs
    (λ u. put_in u actions) (λ u. told_in u actions) end

-- so each desk told the replies of a private machine of its user's limit to the commands that were
-- put there, in order; while the user waits, all but the last
abbrev pub DesksGiveTheReplies : Type 0
DesksGiveTheReplies =
    (limits : List Side) (boards : ℕ) (k end : Configuration) (actions : List Action) (u : ℕ)
    (limit : Side) → Begins limits boards k → Executes (length limits) k actions end →
    at_number limits u ≡ Some limit →
    AreGiven (at_number end.held.users u) (told_in u actions)
    (replies (blank limit) (put_in u actions))

-- what a desk collects is what `CollectGives` says: the private machine's reply to what the desk waits
-- for, and the machine after that
abbrev pub CollectedIsGiven : Type 0
CollectedIsGiven =
    (users : ℕ) (k next : Configuration) (a : Model) (row : ℕ) (r : Reply) →
    IsAtModel users k a → row < users → (does : Collects k row r next) →
    CollectGives (waiting (suc row) does.asked) (Some r) (standing (suc row) does.then)

-- the place that a board took, by its seat's view, stands for the user's private machine and the
-- command that the user waits for; the user's word says that this board has the command
abbrev pub TakenPlaceStands : Type 0
TakenPlaceStands =
    (users : ℕ) (k : Configuration) (a : Model) (seat b row : ℕ) (taken : StoredQueued) →
    IsAtModel users k a → row < users → At k.table.views seat (Holds b row taken) →
    WordIs k row (3 + b)
    × ((c : Command) × ((user a.users (suc row)).stage ≡ out b c)
    × Stands taken (machine_of (user a.users (suc row))) c)
