-- Desks that stand at blank machines may be asked, and each is its user's.
use Rattle.std.proofs.Common.{◌≡◌, ◌<◌, ℕ, suc, List, length, Some, refl, subst}
use Rattle.std.proofs.Common.{get_or, slice_get}
use Rattle.std.proofs.lemmas.Option.{slice_get_within, slice_get-get_or}
use Rattle.cam6_planes.specs.declared.sides.Side.{Side}
use Rattle.cam6_planes.specs.declared.sides.Side.TheVariants.{S256}
use Rattle.cam6_handoff.specs.Boot.{AreBlankDesks}
use Rattle.cam6_handoff.specs.Desks.{IsBlankDesk}
use Rattle.cam6_handoff.specs.Standing.{Stance, standing, waiting, nowhere}
use Rattle.cam6_handoff.specs.Standing.{IsDeskOf, IsResting}
use Rattle.cam6_handoff.specs.Laws.{BlankDesksAreTheirUsers, BlankDesksRest}

blank_rests : (u : ℕ) (limit : Side) (desk : Stance) → IsBlankDesk u limit desk → IsResting desk
blank_rests u limit (standing v m) blank = refl
blank_rests u limit (waiting v asked) blank = absurd blank
blank_rests u limit nowhere blank = absurd blank

blank_is_its_users : (u : ℕ) (limit : Side) (desk : Stance) → IsBlankDesk u limit desk → IsDeskOf u desk
blank_is_its_users u limit (standing v m) blank = blank.0
blank_is_its_users u limit (waiting v asked) blank = absurd blank
blank_is_its_users u limit nowhere blank = absurd blank

-- each desk of the beginning is at the blank machine of some limit
each_is_blank : (limits : List Side) (desks : List Stance) → AreBlankDesks limits desks →
    (i : ℕ) (desk : Stance) → slice_get desks i ≡ Some desk →
    IsBlankDesk (suc i) (get_or limits i S256) desk
each_is_blank limits desks are i desk at =
    let within : i < length limits = subst (λ n. i < n) are.long (slice_get_within desks i desk at) in
    are.each i (get_or limits i S256) desk (slice_get-get_or limits i S256 within) at

pub each_rests : BlankDesksRest
each_rests limits desks are i desk at =
    blank_rests (suc i) (get_or limits i S256) desk (each_is_blank limits desks are i desk at)

pub each_is_its_users : BlankDesksAreTheirUsers
each_is_its_users limits desks are i desk at =
    blank_is_its_users (suc i) (get_or limits i S256) desk (each_is_blank limits desks are i desk at)
