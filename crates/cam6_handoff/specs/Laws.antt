-- Laws of desks at the beginning.
use Rattle.std.specs.Prelude.{◌≡◌, ℕ, suc, List, Some}
use Rattle.std.specs.List.{slice_get}
use Rattle.cam6_planes.specs.declared.sides.Side.{Side}
use Rattle.cam6_handoff.specs.Boot.{AreBlankDesks}
use Rattle.cam6_handoff.specs.Standing.{Stance, IsDeskOf, IsResting}

-- each desk of the beginning may be asked
abbrev pub BlankDesksRest : Type 0
BlankDesksRest =
    (limits : List Side) (desks : List Stance) → AreBlankDesks limits desks →
    (i : ℕ) (desk : Stance) → slice_get desks i ≡ Some desk → IsResting desk

-- each desk of the beginning is its user's
abbrev pub BlankDesksAreTheirUsers : Type 0
BlankDesksAreTheirUsers =
    (limits : List Side) (desks : List Stance) → AreBlankDesks limits desks →
    (i : ℕ) (desk : Stance) → slice_get desks i ≡ Some desk → IsDeskOf (suc i) desk
