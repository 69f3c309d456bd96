-- Each step of the hand-off table is one event of the core: if the word that it found says where
-- its user is, the word that it left says where the event brings the user.
use Rattle.std.specs.Prelude.{◌≡◌, ◌≢◌, ℕ, List, [], ◌∷◌, slice_index, Some, None}
use mathlib.Core.Option as maybe
use Rattle.atomic_table.specs.Table.{Step}
use Rattle.cam6_commands.specs.declared.commands.Command.{Command}
use Rattle.cam6_commands.specs.declared.events.Event.TheVariants as event
use Rattle.cam6_commands.specs.declared.outcomes.Outcome.TheVariants as outcome
use Rattle.cam6_machine.specs.Stored as stored
use Rattle.cam6_model.specs.Machine.{Machine}
use Rattle.cam6_slot.specs.Finished.{StoredFinished, IsDone}
use Rattle.cam6_slot.specs.Lefts.{bands_of, bands_of_step, queued_left, queued_home}
use Rattle.cam6_slot.specs.Parking.{StoredQueued}
use Rattle.cam6_slot.specs.Stands.{Stands}
use Rattle.cam6_slot.specs.declared.resting.Place.TheVariants.{Queued, Finished}
use Rattle.cam6_core.specs.Model.{Model, User, Stage, out, idle, loaded, dead, user, machine_of, transition}
use Rattle.cam6_core.specs.Runs.{status_of}
use Rattle.cam6_handoff.specs.Rule.{Slot, Seated, Row}
use Rattle.cam6_handoff.specs.Steps.{PutTells, TakeTells, BackTells, DoneTells, CollectTells, SitTells}
use Rattle.cam6_handoff.specs.declared.rule.View.{View}
use Rattle.cam6_handoff.specs.declared.rule.View.TheVariants.{Rests, Idle, Holds}
use Rattle.cam6_handoff_laws.specs.Says.{status_of_word, Says, slot_of, stage_of, IsAskedOf}
use Rattle.cam6_handoff_laws.specs.Steps.{user_of, HasUser, HasSeat, LeadsTo, LeadsAt}
use Rattle.cam6_handoff_laws.specs.Steps.{IsBegun, IsTakenOff, IsFromHome}

-- whatever a word says, its status is the user's
abbrev pub WordIsStatus : Type 0
WordIsStatus =
    (m : Machine) (word : ℕ) (slot : Slot) (stage : Stage) → Says m word slot stage →
    status_of stage ≡ status_of_word word

-- the word of each row of the table's rule says where the row's user is
abbrev pub RowIsSaid : Type 0
RowIsSaid =
    (words : List ℕ) (homes : List (maybe.Option Slot)) (views : List View) (u : ℕ)
    (row : Row words homes views u) (m : Machine) → IsAskedOf m row →
    Says m (slice_index words u) (slot_of row) (stage_of row)

-- put is the ask of a command with bands
abbrev pub PutIsAsk : Type 0
PutIsAsk =
    (a : Model) (p : User) (c : Command) (q : StoredQueued) (step : Step Slot)
    (before after : Seated) (found : ℕ) → HasUser a (user_of step) p →
    Says (machine_of p) found None p.stage → IsBegun q (machine_of p) c →
    before.1 ≡ (step.word, Some (Queued q)) ∷ [] → PutTells step before found after →
    LeadsTo a (event.Ask (user_of step) c) (outcome.Asked (bands_of (machine_of p) c)) (user_of step)
    step.first (Some (Queued q))

-- take is the lease of the place that was found
abbrev pub TakeIsLease : Type 0
TakeIsLease =
    (a : Model) (p : User) (b : ℕ) (q : StoredQueued) (step : Step Slot) (before after : Seated)
    (found : ℕ) → HasUser a (user_of step) p → HasSeat a b idle →
    Says (machine_of p) found (Some (Queued q)) p.stage → before.0 ≡ Idle b →
    TakeTells step before found after →
    LeadsAt a (event.Lease (user_of step) b) (outcome.Leased (queued_left q)) (user_of step)
    step.second None b (loaded (user_of step) (queued_left q) (queued_home q))

-- back is the preempt, of a place as it is taken off its board
abbrev pub BackIsPreempt : Type 0
BackIsPreempt =
    (a : Model) (p : User) (b left home : ℕ) (taken q : StoredQueued) (step : Step Slot)
    (before after : Seated) (found : ℕ) → HasUser a (user_of step) p →
    HasSeat a b (loaded (user_of step) left home) → Says (machine_of p) found None p.stage →
    before.0 ≡ Holds b (step.word) taken → BackTells step before found after →
    ((c : Command) → p.stage ≡ out b c → Stands q (machine_of p) c) →
    IsTakenOff (bands_of_step (machine_of p).side) left home q →
    LeadsAt a (event.Preempt b) (outcome.Preempted left) (user_of step) step.first (Some (Queued q))
    b idle

-- or the fail, of a place as it comes from its home
abbrev pub BackFromHomeIsFail : Type 0
BackFromHomeIsFail =
    (a : Model) (p : User) (b left home : ℕ) (taken q : StoredQueued) (step : Step Slot)
    (before after : Seated) (found : ℕ) → HasUser a (user_of step) p →
    HasSeat a b (loaded (user_of step) left home) → Says (machine_of p) found None p.stage →
    before.0 ≡ Holds b (step.word) taken → BackTells step before found after →
    ((c : Command) → p.stage ≡ out b c → Stands q (machine_of p) c) → IsFromHome home q →
    LeadsAt a (event.Fail b) (outcome.Failed (Some home)) (user_of step) step.first (Some (Queued q))
    b dead

-- done is the last band, which frees the board
abbrev pub DoneIsLastBand : Type 0
DoneIsLastBand =
    (a : Model) (p : User) (b home : ℕ) (taken : StoredQueued) (f : StoredFinished)
    (step : Step Slot) (before after : Seated) (found : ℕ) → HasUser a (user_of step) p →
    HasSeat a b (loaded (user_of step) 1 home) → Says (machine_of p) found None p.stage →
    before.0 ≡ Holds b (step.word) taken → DoneTells step before found after →
    ((c : Command) → p.stage ≡ out b c → IsDone f (machine_of p) c) →
    LeadsAt a (event.Band b) (outcome.Banded 0) (user_of step) step.first (Some (Finished f)) b idle

-- collect is the collect of what was found; its machine is then the user's private machine
abbrev pub CollectIsCollect : Type 0
CollectIsCollect =
    (a : Model) (p : User) (f : StoredFinished) (step : Step Slot) (before after : Seated)
    (found : ℕ) → HasUser a (user_of step) p → Says (machine_of p) found (Some (Finished f)) p.stage →
    CollectTells step before found after →
    LeadsTo a (event.Collect (user_of step)) (outcome.Collected f.told) (user_of step) step.second
    None
    × (machine_of (user (transition a (event.Collect (user_of step))).0.users (user_of step))
    ≡ stored.machine_of f.machine)

-- a look that finds another word is no event: it changes no view
abbrev pub LookIsNoEvent : Type 0
LookIsNoEvent =
    (step : Step Slot) (before after : Seated) (found : ℕ) →
    (found ≢ 1 → TakeTells step before found after → after ≡ before)
    × (found ≢ 2 → CollectTells step before found after → after ≡ before)

-- the first take is no event: the user rests as before
abbrev pub FirstTakeIsNoEvent : Type 0
FirstTakeIsNoEvent =
    (m : Machine) (stage : Stage) (step : Step Slot) (before after : Seated) (found : ℕ) →
    SitTells step before found after → Says m 0 None stage →
    (after ≡ (Rests step.word, (step.word, None) ∷ [])) × (status_of stage ≡ status_of_word 0)
