-- Actions one after another, and the events that they are.
use Rattle.std.specs.Prelude.{◌≡◌, ◌==◌, ℕ, suc, List, [], ◌∷◌, ◌++◌, if◌then◌else◌, length}
use Rattle.std.specs.Prelude.{map, replicate, None}
use Rattle.atomic_table.specs.Table.{opening}
use Rattle.cam6_planes.specs.declared.sides.Side.{Side}
use Rattle.cam6_commands.specs.declared.commands.Command.{Command}
use Rattle.cam6_commands.specs.declared.events.Event.{Event}
use Rattle.cam6_commands.specs.declared.events.Event.TheVariants as event
use Rattle.cam6_commands.specs.declared.outcomes.Outcome.{Outcome}
use Rattle.cam6_commands.specs.declared.replies.Reply.{Reply}
use Rattle.cam6_core.specs.Headline.{commands, given}
use Rattle.cam6_core.specs.Model.{Model}
use Rattle.cam6_core.specs.Runs.{AreTheModels, after_all}
use Rattle.cam6_core.specs.declared.parts.Whereabouts.{Whereabouts}
use Rattle.cam6_core.specs.declared.parts.Whereabouts.TheVariants as whereabouts
use Rattle.cam6_station.specs.Held as board
use Rattle.cam6_handoff.specs.Boot.{AreBlankDesks}
use Rattle.cam6_handoff.specs.Standing.{Stance, standing, waiting, nowhere}
use Rattle.cam6_handoff.specs.declared.rule.View.TheVariants.{First}
use Rattle.cam6_handoff_laws.specs.Actions.{Action, Acts, answer, put, collect, take, band, back, lose}
use Rattle.cam6_handoff_laws.specs.Actions.{done, repair, cache, look, cut_desk, cut_board, sit}
use Rattle.cam6_handoff_laws.specs.Configurations.{Configuration, IsAtModel}

-- the events of an action: a command that is answered at once is asked and collected
abbrev pub events_of : Action → List Event
events_of (answer row c r) = event.Ask (suc row) c ∷ event.Collect (suc row) ∷ []
events_of (put row c) = event.Ask (suc row) c ∷ []
events_of (collect row r) = event.Collect (suc row) ∷ []
events_of (take b row) = event.Lease (suc row) b ∷ []
events_of (band b) = event.Band b ∷ []
events_of (back b row) = event.Preempt b ∷ []
events_of (lose b row) = event.Fail b ∷ []
events_of (done b row) = event.Band b ∷ []
events_of (repair b) = event.Repair b ∷ []
events_of cache = []
events_of look = []
events_of (cut_desk row) = []
events_of (cut_board b) = []
events_of (sit row) = []

-- the command that an action brings to a user's desk, if it brings one
abbrev pub put_by : ℕ → Action → List Command
put_by u (answer row c r) = if suc row == u then c ∷ [] else []
put_by u (put row c) = if suc row == u then c ∷ [] else []
put_by u action = []

-- the reply that an action gives at a user's desk, if it gives one
abbrev pub told_by : ℕ → Action → List Reply
told_by u (answer row c r) = if suc row == u then r ∷ [] else []
told_by u (collect row r) = if suc row == u then r ∷ [] else []
told_by u action = []

-- the same for actions one after another
unfoldable pub events_in : List Action → List Event
events_in [] = []
events_in (action ∷ later) = events_of action ++ events_in later

unfoldable pub put_in : ℕ → List Action → List Command
put_in u [] = []
put_in u (action ∷ later) = put_by u action ++ put_in u later

unfoldable pub told_in : ℕ → List Action → List Reply
told_in u [] = []
told_in u (action ∷ later) = told_by u action ++ told_in u later

-- actions bring the threads from one configuration to another
unfoldable pub Executes : ℕ → Configuration → List Action → Configuration → Type 0
Executes users k [] end = end ≡ k
Executes users k (action ∷ later) end =
    (next : Configuration) × Acts users k action next × Executes users next later end

-- a desk at a machine holds it
abbrev pub held_at : Stance → Whereabouts
held_at (standing u machine) = whereabouts.Resting machine
held_at (waiting u asked) = whereabouts.Out
held_at nowhere = whereabouts.Out

-- the table is new, with no seat but the first; each user's machine is the blank one that the user's
-- desk will have, as `boot` says; the boards are idle, and no table is cached
pub record Begins (limits : List Side) (boards : ℕ) (k : Configuration) : Type 0 where
  pub table : k.table
      ≡ opening (replicate (length limits) 0) (replicate (length limits) None) (First 0 0)
  pub desks : List Stance
  pub blank : AreBlankDesks limits desks
  pub users : k.held.users ≡ map held_at desks
  pub idle : k.held.boards ≡ replicate boards board.idle
  pub none_cached : k.held.cache.tables ≡ []

-- the model's outcomes of these events are these, and after them the model is where the threads are;
-- by these events each user asks for what was put at their desk, and is given what was told there
pub record AreEvents (users : ℕ) (a : Model) (es : List Event) (rs : List Outcome)
    (put : ℕ → List Command) (told : ℕ → List Reply) (end : Configuration) : Type 0 where
  pub outcomes : AreTheModels a es rs
  pub at : IsAtModel users end (after_all a es rs)
  pub asked : (u : ℕ) → commands u es rs ≡ put u
  pub given : (u : ℕ) → given u es rs ≡ told u
