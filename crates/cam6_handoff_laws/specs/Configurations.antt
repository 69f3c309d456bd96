-- All that the threads of a host have together, and when it agrees with a model of the core.
use Rattle.std.specs.Prelude.{◌≡◌, ℕ, suc, ◌+◌, Option, Some, None, length, slice_index}
use Rattle.std.specs.List.{slice_get}
use mathlib.Core.Option.{some}
use lib.ListN.{get_elem?}
use Rattle.cam6_commands.specs.declared.commands.Command.{Command}
use Rattle.cam6_slot.specs.Parking.{StoredQueued}
use Rattle.cam6_slot.specs.declared.resting.Place.TheVariants.{Queued, Finished}
use Rattle.cam6_station.specs.Held.{Manned, Held}
use Rattle.cam6_station.specs.Held as board
use Rattle.cam6_core.specs.Good.{Good}
use Rattle.cam6_core.specs.Model.{Stage, resting, queued, out, finished}
use Rattle.cam6_core.specs.Model.{User, Model, user, machine_of}
use Rattle.cam6_core.specs.State.{State, at_number}
use Rattle.cam6_core.specs.declared.parts.Whereabouts.{Whereabouts}
use Rattle.cam6_core.specs.declared.parts.Whereabouts.TheVariants as whereabouts
use Rattle.cam6_handoff.specs.Rule.{Slot, Shared, Rule, At, asked_machine, asked_command}
use Rattle.cam6_handoff.specs.declared.rule.View.TheVariants.{Waits}

-- the hand-off table, and what is held: the machine of each user at rest, by the user's desk; the
-- place of a user who is queued or finished, in the slot; for each board what it was leased, from the
-- take until it puts a place; and the cached tables
pub record Configuration : Type 0 where
  pub table : Shared
  pub held : State

module _ (k : Configuration) (row : ℕ) where
  abbrev pub WordIs : ℕ → Type 0
  WordIs n = slice_index k.table.words row ≡ n

  abbrev pub SlotHas : Slot → Type 0
  SlotHas slot = get_elem? k.table.homes row ≡ some (some slot)

  -- a board is loaded for the row's user, with this
  abbrev pub IsLoadedWith : ℕ → Held → Type 0
  IsLoadedWith b h = slice_get k.held.boards b ≡ Some (board.loaded (suc row) h)

  -- the row's word and slot say where the user's command is: the word is 0 while the desk has the
  -- machine; at 1 and 2 the command's place is in the slot; at 3 + b board b is loaded for the user
  abbrev pub WordSays : Whereabouts → Type 0
  WordSays (whereabouts.Resting r) = WordIs 0
  WordSays (whereabouts.Queued q) = WordIs 1 × SlotHas (Some (Queued q))
  WordSays whereabouts.Out = (b : ℕ) × (h : Held) × WordIs (3 + b) × IsLoadedWith b h
  WordSays (whereabouts.Finished f) = WordIs 2 × SlotHas (Some (Finished f))

-- the table keeps its rule, and each of so many users is where the user's word says
pub record IsSaid (users : ℕ) (k : Configuration) : Type 0 where
  pub rule : Rule users k.table
  pub long : length k.held.users ≡ users
  pub says : (row : ℕ) (x : Whereabouts) → at_number k.held.users (suc row) ≡ Some x →
      WordSays k row x

-- the command that a user waits for
abbrev pub command_at : Stage → Option Command
command_at resting = None
command_at (queued c left home) = Some c
command_at (out b c) = Some c
command_at (finished c) = Some c

-- what was asked is what the user waits for, at the user's private machine
pub record IsAwaited (asked : StoredQueued) (p : User) : Type 0 where
  pub machine : asked_machine asked ≡ machine_of p
  pub command : Some (asked_command asked) ≡ command_at p.stage

-- the threads are where the model is: each user is where the user's word says, all that is held
-- agrees with the model, and what a desk waits for is what the model's user waits for
pub record IsAtModel (users : ℕ) (k : Configuration) (a : Model) : Type 0 where
  pub said : IsSaid users k
  pub good : Good k.held a
  pub awaited : (seat row : ℕ) (asked : StoredQueued) →
      At k.table.views seat (Waits row asked) → IsAwaited asked (user a.users (suc row))
