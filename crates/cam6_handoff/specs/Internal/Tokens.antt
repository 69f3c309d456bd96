-- What the seat of a desk and of a board has in the table.
use Rattle.std.specs.Prelude.{◌≡◌, ℕ, ◌+◌, ◌<◌, ◌≤◌, [], ◌∷◌, List, Option, Some, None}
use Rattle.atomic_table.specs.Seated.{TableId}
use Rattle.cam6_machine.specs.Stored.{StoredMachine}
use Rattle.cam6_slot.specs.Parking.{StoredQueued}
use Rattle.cam6_handoff.specs.declared.rule.View.{View}
use Rattle.cam6_handoff.specs.declared.rule.View.TheVariants.{First, Unseated, Rests, Waits}
use Rattle.cam6_handoff.specs.declared.rule.View.TheVariants.{Idle, Holds}
use Rattle.cam6_handoff.specs.Rule.{Seated}
use Rattle.cam6_handoff.specs.Standing.{Stance, standing, waiting, nowhere}
use Rattle.cam6_handoff.specs.Holding.{Holding, nothing, holding, BoardStance}
use Rattle.cam6_commands.specs.Limits.{max_users}

abbrev pub waits_at : View → Stance
waits_at (First desks boards) = nowhere
waits_at (Unseated u) = nowhere
waits_at (Rests u) = nowhere
waits_at (Waits u asked) = waiting (u + 1) asked
waits_at (Idle b) = nowhere
waits_at (Holds b u q) = nowhere

abbrev pub stance_of : ℕ → Option StoredMachine → View → Stance
stance_of u (Some m) v = standing (u + 1) m
stance_of u None v = waits_at v

-- a desk with its machine has its slot, with nothing in it; one that waits has none
abbrev pub DeskToken : ℕ → Option StoredMachine → Seated → Type 0
DeskToken u (Some m) me = me ≡ (Rests u, (u, None) ∷ [])
DeskToken u None me = (asked : StoredQueued) × (me ≡ (Waits u asked, []))

abbrev pub holds_at : View → Holding
holds_at (First desks boards) = nothing
holds_at (Unseated u) = nothing
holds_at (Rests u) = nothing
holds_at (Waits u asked) = nothing
holds_at (Idle b) = nothing
holds_at (Holds b u q) = holding (u + 1) q

abbrev pub board_stance : ℕ → ℕ → List (List ℕ) → View → BoardStance
board_stance b n tables v =
    record { number = b; users = n; holds = holds_at v; tables = tables }

abbrev pub TakenToken : ℕ → ℕ → Option ℕ → Seated → Type 0
TakenToken n b None me = me ≡ (Idle b, [])
TakenToken n b (Some u) me =
    (u < n) × ((q : StoredQueued) × (me ≡ (Holds b u q, (u, None) ∷ [])))

-- a board's seat is of the table, which has so many users, `max_users` at most; it has taken what
-- it says
abbrev pub BoardToken : TableId → ℕ → ℕ → TableId → ℕ → Option ℕ → Seated → Type 0
BoardToken table users n own b taken me =
    (own ≡ table) × (n ≡ users) × (table.words ≡ users) × (table.slots ≡ users)
    × TakenToken n b taken me × (n ≤ max_users)
