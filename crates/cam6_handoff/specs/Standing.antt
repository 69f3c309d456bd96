-- Where a desk stands.
use Rattle.std.specs.Prelude.{◌≡◌, ℕ, Bool, true, false}
use Rattle.cam6_machine.specs.Stored.{StoredMachine}
use Rattle.cam6_slot.specs.Parking.{StoredQueued}

-- the desk of a user, counted from 1, at a machine; or one that waits for what was asked; or nowhere,
-- where no desk ever stands
pub data Stance : Type 0 where
  standing : ℕ → StoredMachine → Stance
  waiting : ℕ → StoredQueued → Stance
  nowhere : Stance

abbrev pub is_waiting : Stance → Bool
is_waiting (standing u m) = false
is_waiting (waiting u asked) = true
is_waiting nowhere = true

abbrev pub IsResting : Stance → Type 0
IsResting s = is_waiting s ≡ false

-- the desk is this user's, counted from 1
abbrev pub IsDeskOf : ℕ → Stance → Type 0
IsDeskOf u (standing v m) = v ≡ u
IsDeskOf u (waiting v asked) = v ≡ u
IsDeskOf u nowhere = ⊥
