-- What the calls of a station make of what it holds.
use Rattle.std.specs.Prelude.{ℕ, ◌≡◌, ◌<◌, ◌≤◌, ◌+◌, Bool, true, false, Option, Some, None, ⊤}
use Rattle.cam6_commands.specs.declared.commands.Command.{Command}
use Rattle.cam6_model.specs.Machine.{Machine}
use Rattle.cam6_slot.specs.Finished.{IsDone}
use Rattle.cam6_slot.specs.Lefts.{queued_left, queued_home, home_after}
use Rattle.cam6_slot.specs.Parking.{StoredQueued}
use Rattle.cam6_slot.specs.Stands.{Stands}
use Rattle.cam6_station.specs.declared.stations.Banded.{Banded}
use Rattle.cam6_station.specs.declared.stations.Banded.TheVariants.{More, Last, Lost}
use Rattle.cam6_station.specs.declared.stations.Preempted.{Preempted}
use Rattle.cam6_station.specs.declared.stations.Preempted.TheVariants as off
use Rattle.cam6_station.specs.Held.{Held, HeldFits, Manned, idle, loaded, dead, StandsHeld}
use Rattle.cam6_station.specs.Held.{held_left, held_home, held_bands}

-- one band less is left, and one at least; none is lost from home. What is held still fits, is on the
-- same board, and stands for what it stood for
pub record GoesOn (before after : Held) : Type 0 where
  pub left : held_left after + 1 ≡ held_left before
  pub some : 0 < held_left after
  pub home : held_home after ≡ held_home before
  pub fits : HeldFits after
  pub board : after.lease.board ≡ before.lease.board
  pub stands : (m : Machine) (c : Command) → StandsHeld before m c → StandsHeld after m c

-- the user's command waits again, with so many bands left and so many from home, and stands for what
-- it stood for
pub record ComesBack (h : Held) (q : StoredQueued) (bands at_home : ℕ) : Type 0 where
  pub left : queued_left q ≡ bands
  pub home : queued_home q ≡ at_home
  pub stands : (m : Machine) (c : Command) → StandsHeld h m c → Stands q m c

-- lost with the board it goes back to those of its home
abbrev pub GoesHome : Held → StoredQueued → Type 0
GoesHome h q = ComesBack h q (held_home h) (held_home h)

-- a band goes on with what is held; it is the last one if one was left, and then the board is free,
-- and what is finished is done with whatever it stood for; or the board fails
abbrev pub BandGives : Manned → Banded → Manned → Type 0
BandGives (loaded u h) (More left) (loaded v k) =
    (v ≡ u) × (left ≡ held_left k) × GoesOn h k
BandGives (loaded u h) (Last v f) idle =
    (v ≡ u) × (held_left h ≡ 1) ×
    ((m : Machine) (c : Command) → StandsHeld h m c → IsDone f m c)
BandGives (loaded u h) (Lost v q) dead = (v ≡ u) × GoesHome h q
BandGives s banded after = ⊥

-- taken off the board it keeps the bands that are left, unless the board fails
abbrev pub PreemptGives : Manned → Preempted → Manned → Type 0
PreemptGives (loaded u h) (off.Back v q) idle =
    (v ≡ u)
    × ComesBack h q (held_left h) (home_after (held_bands h) (held_left h) (held_home h))
PreemptGives (loaded u h) (off.Lost v q) dead = (v ≡ u) × GoesHome h q
PreemptGives s preempted after = ⊥

-- a board that is made to fail loses what it holds; an idle one fails for nobody
abbrev pub FailGives : Manned → Option (ℕ × StoredQueued) → Type 0
FailGives (loaded u h) (Some back) = (back.0 ≡ u) × GoesHome h back.1
FailGives idle None = ⊤
FailGives s back = ⊥

-- the board failed in a call
abbrev pub is_lost : Banded → Bool
is_lost (Lost u q) = true
is_lost banded = false

abbrev pub is_lost_off : Preempted → Bool
is_lost_off (off.Lost u q) = true
is_lost_off preempted = false

-- by how often it had failed before and after: once more at least if it failed
abbrev pub Rises : Bool → ℕ → ℕ → Type 0
Rises true before after = before < after
Rises false before after = before ≤ after
