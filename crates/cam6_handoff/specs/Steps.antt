-- What each kind of step says: the word that it found, the view of its seat after it, and the word
-- that it left. That is a step's first operand, or the second one if the step looks first.
use Rattle.std.specs.Prelude.{◌≡◌, ◌≢◌, ℕ, ◌+◌, ◌<◌, [], ◌∷◌, Some, None}
use Rattle.atomic_table.specs.Table.{Step}
use Rattle.atomic_table.specs.Seated.{TableId}
use Rattle.cam6_slot.specs.Finished.{StoredFinished}
use Rattle.cam6_slot.specs.Parking.{StoredQueued}
use Rattle.cam6_slot.specs.declared.resting.Place.TheVariants.{Queued, Finished}
use Rattle.cam6_handoff.specs.declared.rule.View.{View}
use Rattle.cam6_handoff.specs.declared.rule.View.TheVariants.{First, Unseated, Rests, Waits}
use Rattle.cam6_handoff.specs.declared.rule.View.TheVariants.{Idle, Holds}
use Rattle.cam6_handoff.specs.Rule.{Slot, Seated, IsAskedDone}

-- the number of a view's board
abbrev pub board_in : View → ℕ
board_in (First desks boards) = 0
board_in (Unseated u) = 0
board_in (Rests u) = 0
board_in (Waits u asked) = 0
board_in (Idle b) = b
board_in (Holds b u q) = b

-- put: 0 is found, the desk waits for what it put, and 1 is left
abbrev pub PutTells : Step Slot → Seated → ℕ → Seated → Type 0
PutTells step before found after =
    (found ≡ 0)
    × ((q : StoredQueued) → before.1 ≡ (step.word, Some (Queued q)) ∷ [] →
    after ≡ (Waits step.word q, []))
    × (step.first ≡ 1)

-- take: if 1 is found, the board has the place and its own word is left; if not, nothing changes
abbrev pub TakeTells : Step Slot → Seated → ℕ → Seated → Type 0
TakeTells step before found after =
    (found ≡ 1 → (q : StoredQueued)
    × (after ≡ (Holds (board_in before.0) step.word q, (step.word, Some (Queued q)) ∷ []))
    × (step.second ≡ 3 + board_in before.0))
    × (found ≢ 1 → after ≡ before)

-- the board's own word is found, the board has nothing any more, and this word is left
abbrev pub GiveTells : ℕ → Step Slot → Seated → ℕ → Seated → Type 0
GiveTells left step before found after =
    (found ≡ 3 + board_in before.0) × (after ≡ (Idle (board_in before.0), []))
    × (step.first ≡ left)

-- back leaves 1, and done leaves 2
abbrev pub BackTells : Step Slot → Seated → ℕ → Seated → Type 0
BackTells = GiveTells 1

abbrev pub DoneTells : Step Slot → Seated → ℕ → Seated → Type 0
DoneTells = GiveTells 2

-- collect: if 2 is found, the desk has what it asked for and 0 is left; if not, nothing changes
abbrev pub CollectTells : Step Slot → Seated → ℕ → Seated → Type 0
CollectTells step before found after =
    (found ≡ 2 → (f : StoredFinished)
    × ((asked : StoredQueued) → before.0 ≡ Waits step.word asked → IsAskedDone asked f)
    × (after ≡ (Rests step.word, (step.word, Some (Finished f)) ∷ []))
    × (step.second ≡ 0))
    × (found ≢ 2 → after ≡ before)

-- first take: the desk has its slot, with nothing in it
abbrev pub SitTells : Step Slot → Seated → ℕ → Seated → Type 0
SitTells step before found after = after ≡ (Rests step.word, (step.word, None) ∷ [])

-- a seat is of the table, which has a word and a slot for each user, and the row is that of one
abbrev pub IsAt : TableId → ℕ → TableId → ℕ → Type 0
IsAt table users own row =
    (own ≡ table) × (row < users) × (table.words ≡ users) × (table.slots ≡ users)
