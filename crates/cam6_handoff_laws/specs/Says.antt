-- Where a user of the core stands, by the user's word of the hand-off table and the user's slot.
use Rattle.std.specs.Prelude.{◌≡◌, ℕ, zero, suc, List, Some, None, ⊤}
use mathlib.Core.Option as maybe
use Rattle.cam6_model.specs.Machine.{Machine}
use Rattle.cam6_slot.specs.Finished.{IsDone}
use Rattle.cam6_slot.specs.Lefts.{queued_left, queued_home}
use Rattle.cam6_slot.specs.Stands.{Stands}
use Rattle.cam6_slot.specs.declared.resting.Place.TheVariants.{Queued, Finished}
use Rattle.cam6_core.specs.Model.{Stage, resting, queued, out, finished}
use Rattle.cam6_core.specs.Refusals.{Status}
use Rattle.cam6_core.specs.Refusals as stands
use Rattle.cam6_handoff.specs.Rule.{Slot, Row, asked_machine, asked_command}
use Rattle.cam6_handoff.specs.Rule as row
use Rattle.cam6_handoff.specs.declared.rule.View.{View}

-- the status of a word: 0, 1, 2, and 3 + b if board b has the command
abbrev pub status_of_word : ℕ → Status
status_of_word zero = stands.resting
status_of_word (suc zero) = stands.queued
status_of_word (suc (suc zero)) = stands.finished
status_of_word (suc (suc (suc b))) = stands.out

-- a word and a slot say where a user with the private machine m is. A place in the slot that waits
-- for a board stands for m and the command, with the bands that are left and those from home; what
-- is finished is done with m and the command. While the desk has the machine, or a board has the
-- command, nothing is in the slot
abbrev pub Says : Machine → ℕ → Slot → Stage → Type 0
Says m zero None resting = ⊤
Says m (suc zero) (Some (Queued q)) (queued c left home) =
    Stands q m c × (left ≡ queued_left q) × (home ≡ queued_home q)
Says m (suc (suc zero)) (Some (Finished f)) (finished c) = IsDone f m c
Says m (suc (suc (suc b))) None (out d c) = d ≡ b
Says m n slot stage = ⊥

module _ {words : List ℕ} {homes : List (maybe.Option Slot)} {views : List View} {u : ℕ} where
  -- what is in the slot of a row's user
  abbrev pub slot_of : Row words homes views u → Slot
  slot_of (row.uncut w h n b) = None
  slot_of (row.unseated d w h k n) = None
  slot_of (row.resting d w h k n) = None
  slot_of (row.queued d asked q w h s k n) = Some (Queued q)
  slot_of (row.out d e b asked q w h s k o) = None
  slot_of (row.finished d asked f w h s k n) = Some (Finished f)

  -- where the row's user is
  abbrev pub stage_of : Row words homes views u → Stage
  stage_of (row.uncut w h n b) = resting
  stage_of (row.unseated d w h k n) = resting
  stage_of (row.resting d w h k n) = resting
  stage_of (row.queued d asked q w h s k n) =
      queued (asked_command asked) (queued_left q) (queued_home q)
  stage_of (row.out d e b asked q w h s k o) = out b (asked_command asked)
  stage_of (row.finished d asked f w h s k n) = finished (asked_command asked)

  -- what the user's desk waits for was asked of this machine
  abbrev pub IsAskedOf : Machine → Row words homes views u → Type 0
  IsAskedOf m (row.uncut w h n b) = ⊤
  IsAskedOf m (row.unseated d w h k n) = ⊤
  IsAskedOf m (row.resting d w h k n) = ⊤
  IsAskedOf m (row.queued d asked q w h s k n) = asked_machine asked ≡ m
  IsAskedOf m (row.out d e b asked q w h s k o) = asked_machine asked ≡ m
  IsAskedOf m (row.finished d asked f w h s k n) = asked_machine asked ≡ m
