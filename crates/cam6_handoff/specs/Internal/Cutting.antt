-- How the first seat is cut.
use Rattle.std.specs.Prelude.{◌≡◌, ℕ, ◌+◌}
use Rattle.atomic_table.specs.Seated.{TableId}
use Rattle.cam6_handoff.specs.declared.rule.View.{View}
use Rattle.cam6_handoff.specs.declared.rule.View.TheVariants.{First, Unseated}
use Rattle.cam6_handoff.specs.declared.rule.View.TheVariants.{Idle}

-- what the first seat knows after a cut, and what the new one does; no other seat is cut
abbrev pub after_desk : View → View
after_desk (First desks boards) = First (desks + 1) boards
after_desk v = v

abbrev pub new_desk : View → View
new_desk (First desks boards) = Unseated desks
new_desk v = v

abbrev pub after_board : View → View
after_board (First desks boards) = First desks (boards + 1)
after_board v = v

abbrev pub new_board : View → View
new_board (First desks boards) = Idle boards
new_board v = v

-- the seat is of the table, which has a word and a slot for each user
abbrev pub IsFirstOf : TableId → ℕ → TableId → Type 0
IsFirstOf table users own = (own ≡ table) × (table.words ≡ users) × (table.slots ≡ users)
