-- The rule of the hand-off table: what holds of a user's word and slot, and of all seats' views.
--
-- Users are counted from 1, and their words, slots and rows from 0: the row u is that of user u + 1.
--
-- A user's word is 0 if the user's desk has the machine, 1 if the command waits for a board, 2 if
-- it is finished, and 3 + b if board b has it.
use Rattle.std.specs.Prelude.{◌≡◌, ℕ, ◌+◌, ◌<◌, ◌≤◌, Bool, true, false, eqb, List, length}
use Rattle.std.specs.Prelude.{slice_index, Option, Some, None}
use mathlib.Core.Option.{some, none}
use mathlib.Core.Option as maybe
use lib.ListN.{get_elem?}
use Rattle.atomic_table.specs.Table.{State, Me}
use Rattle.cam6_commands.specs.declared.commands.Command.{Command}
use Rattle.cam6_model.specs.Machine.{Machine}
use Rattle.cam6_slot.specs.Finished.{StoredFinished, IsDone}
use Rattle.cam6_slot.specs.Parking.{StoredQueued}
use Rattle.cam6_slot.specs.Stands.{Stands}
use Rattle.cam6_slot.specs.Works.{machine_at_home, command_in}
use Rattle.cam6_slot.specs.declared.resting.Place.{Place}
use Rattle.cam6_slot.specs.declared.resting.Place.TheVariants.{Queued, Finished}
use Rattle.cam6_handoff.specs.declared.rule.Counts.{Counts}
use Rattle.cam6_handoff.specs.declared.rule.View.{View}
use Rattle.cam6_handoff.specs.declared.rule.View.TheVariants.{First, Unseated, Rests, Waits}
use Rattle.cam6_handoff.specs.declared.rule.View.TheVariants.{Idle, Holds}

-- a slot has a place in it, or nothing
abbrev pub Slot : Type 0
Slot = Option Place

abbrev pub Shared : Type 0
Shared = State Slot View

-- a seat's view, with the slots that it has taken
abbrev pub Seated : Type 0
Seated = Me Slot View

-- the machine and the command of what was asked, as they are when it is put
abbrev pub asked_machine : StoredQueued → Machine
asked_machine asked = machine_at_home asked.work

abbrev pub asked_command : StoredQueued → Command
asked_command asked = command_in asked.work

-- a place stands for what was asked, and what is finished is what was asked for
abbrev pub StandsForAsked : StoredQueued → StoredQueued → Type 0
StandsForAsked asked q = Stands q (asked_machine asked) (asked_command asked)

abbrev pub IsAskedDone : StoredQueued → StoredFinished → Type 0
IsAskedDone asked f = IsDone f (asked_machine asked) (asked_command asked)

-- the view at the beginning
abbrev pub first_of : Counts → View
first_of counts = First 0 0

abbrev pub is_first : View → Bool
is_first (First desks boards) = true
is_first (Unseated u) = false
is_first (Rests u) = false
is_first (Waits u asked) = false
is_first (Idle b) = false
is_first (Holds b u q) = false

-- whether a view is that of the user's desk
abbrev pub is_desk_of : ℕ → View → Bool
is_desk_of u (First desks boards) = false
is_desk_of u (Unseated v) = eqb v u
is_desk_of u (Rests v) = eqb v u
is_desk_of u (Waits v asked) = eqb v u
is_desk_of u (Idle b) = false
is_desk_of u (Holds b v q) = false

-- whether a view is that of a board that has the user's place
abbrev pub is_board_of : ℕ → View → Bool
is_board_of u (First desks boards) = false
is_board_of u (Unseated v) = false
is_board_of u (Rests v) = false
is_board_of u (Waits v asked) = false
is_board_of u (Idle b) = false
is_board_of u (Holds b v q) = eqb v u

-- the seat of this number has the view
abbrev pub At : List View → ℕ → View → Type 0
At views id v = get_elem? views id ≡ some v

-- no view is one of these
abbrev pub NoOne : (View → Bool) → List View → Type 0
NoOne is views = (id : ℕ) (v : View) → At views id v → is v ≡ true → ⊥

-- no view but that of this seat is one of these
abbrev pub Only : (View → Bool) → List View → ℕ → Type 0
Only is views one = (id : ℕ) (v : View) → At views id v → is v ≡ true → id ≡ one

module _ (words : List ℕ) (homes : List (maybe.Option Slot)) (views : List View) (u : ℕ) where
  abbrev pub Word : ℕ → Type 0
  Word n = slice_index words u ≡ n

  -- the user's slot stands in the table with this in it, or a seat has taken it
  abbrev pub Home : maybe.Option Slot → Type 0
  Home home = get_elem? homes u ≡ some home

  abbrev pub Desk : ℕ → View → Type 0
  Desk d v = At views d v × Only (is_desk_of u) views d

  abbrev pub Board : ℕ → View → Type 0
  Board e v = At views e v × Only (is_board_of u) views e

  abbrev pub NoBoard : Type 0
  NoBoard = NoOne (is_board_of u) views

  -- one row for each word; the first two only while the seats are cut
  pub data Row : Type 0 where
    uncut : Word 0 → Home (some None) → NoOne (is_desk_of u) views → NoBoard → Row
    unseated : (d : ℕ) → Word 0 → Home (some None) → Desk d (Unseated u) → NoBoard → Row
    resting : (d : ℕ) → Word 0 → Home none → Desk d (Rests u) → NoBoard → Row
    queued : (d : ℕ) (asked q : StoredQueued) → Word 1 → Home (some (Some (Queued q))) →
        StandsForAsked asked q → Desk d (Waits u asked) → NoBoard → Row
    out : (d e b : ℕ) (asked q : StoredQueued) → Word (3 + b) → Home none →
        StandsForAsked asked q → Desk d (Waits u asked) → Board e (Holds b u q) → Row
    finished : (d : ℕ) (asked : StoredQueued) (f : StoredFinished) → Word 2 →
        Home (some (Some (Finished f))) → IsAskedDone asked f → Desk d (Waits u asked) →
        NoBoard → Row

-- a word and a slot for each user, and what the user's row says; no desk is cut but those that the
-- first seat counts, and there is at most one first seat
pub record Rule (users : ℕ) (s : Shared) : Type 0 where
  pub words : length s.words ≡ users
  pub slots : length s.homes ≡ users
  pub rows : (u : ℕ) → u < users → Row s.words s.homes s.views u
  pub uncut_yet : (id desks boards : ℕ) → At s.views id (First desks boards) → (u : ℕ) →
      desks ≤ u → NoOne (is_desk_of u) s.views
  pub one_first : (id other : ℕ) (v w : View) → At s.views id v → At s.views other w →
      is_first v ≡ true → is_first w ≡ true → id ≡ other
