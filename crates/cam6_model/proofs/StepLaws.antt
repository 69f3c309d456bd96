-- What follows of steps on.
use Rattle.std.proofs.Common.{◌≡◌, ℕ, zero, suc, ◌+◌, ◌<◌, ◌%◌, Bool, List, [], ◌∷◌, length}
use Rattle.std.proofs.Common.{Option, Some, None, refl, sym, ap, ◌∙◌, arith}
use Rattle.std.specs.List.{slice_get}
use Rattle.std.proofs.Math.Nat.{mod-add-mod, mod-eq_of_lt, mod-lt}
use Rattle.cam6_planes.specs.Cells.{Cells}
use Rattle.cam6_planes.proofs.CellsAt.{torus_at}
use Rattle.cam6_wiring.specs.Name.{plane_of}
use Rattle.cam6_wiring.specs.declared.names.Half.{Half}
use Rattle.cam6_wiring.specs.declared.names.Half.TheVariants.{A, B}
use Rattle.cam6_wiring.specs.declared.names.Level.{Level}
use Rattle.cam6_wiring.specs.declared.names.Level.TheVariants.{Lower, Upper}
use Rattle.cam6_model.specs.Steps.{new_cell, step}
use Rattle.cam6_wiring.specs.Name.{on_plane}
use Rattle.cam6_model.specs.Cycles.{EntryRules, rule_for, setting_for}
use Rattle.cam6_model.specs.Machine.{Machine, stepped_by, stepped, steps}
use Rattle.cam6_commands.specs.declared.commands.NamedEntry.{NamedEntry}

pub plane_of-lt : (half : Half) (level : Level) → plane_of half level < 4
plane_of-lt A Lower = omega arith
plane_of-lt A Upper = omega arith
plane_of-lt B Lower = omega arith
plane_of-lt B Upper = omega arith

pub on_plane-of : (half : Half) (level : Level) (bit : Half → Level → Bool) →
    on_plane (plane_of half level) bit ≡ bit half level
on_plane-of A Lower bit = refl
on_plane-of A Upper bit = refl
on_plane-of B Lower bit = refl
on_plane-of B Upper bit = refl

pub kept_on : (s : ℕ) (entry : EntryRules) (f : Cells) (half : Half) (level : Level) (x y : ℕ) →
    x < s → y < s → rule_for half entry ≡ None →
    step s entry f (plane_of half level) x y ≡ f (plane_of half level) x y
kept_on s entry f half level x y h k none =
    let bit : Half → Level → Bool = λ half level.
    new_cell s f (setting_for half entry) (rule_for half entry) level x y in
    let new : Cells = λ p x y. on_plane p (λ half level.
    new_cell s f (setting_for half entry) (rule_for half entry) level x y) in
    torus_at s new (plane_of half level) x y (plane_of-lt half level) h k ∙
    on_plane-of half level bit ∙
    ap (λ rule. new_cell s f (setting_for half entry) rule level x y) none ∙
    kept half level
  where
    kept : (half : Half) (level : Level) →
        f (plane_of (setting_for half entry).half level) x y ≡ f (plane_of half level) x y
    kept A level = refl
    kept B level = refl

pub steps_add_up : (m : Machine) (first later : ℕ) →
    steps (first + later) m ≡ steps later (steps first m)
steps_add_up m first zero =
    let none_more : first + 0 ≡ first = omega arith in ap (λ n. steps n m) none_more
steps_add_up m first (suc later) =
    let one_more : first + suc later ≡ suc (first + later) = omega arith in
    ap (λ n. steps n m) one_more ∙ ap stepped (steps_add_up m first later)

-- a step changes these alone
moved : (o : Option NamedEntry) (m : Machine) →
    stepped_by o m
    ≡ record m { planes = (stepped_by o m).planes; position = (stepped_by o m).position }
moved None m = refl
moved (Some entry) m = refl

pub only_planes_and_position : (m : Machine) (n : ℕ) →
    steps n m ≡ record m { planes = (steps n m).planes; position = (steps n m).position }
only_planes_and_position m zero = refl
only_planes_and_position m (suc n) =
    let before = steps n m in
    let after = stepped before in
    moved (slice_get before.cycle before.position) before ∙
    ap {B = Machine}
    (λ (k : Machine). record k { planes = after.planes; position = after.position })
    (only_planes_and_position m n)

-- an entry stands at each index of the cycle
pub at_index : (cycle : List NamedEntry) (index : ℕ) → index < length cycle →
    (entry : NamedEntry) × (slice_get cycle index ≡ Some entry)
at_index [] index within = absurd (omega (arith, within))
at_index (entry ∷ cycle) zero within = (entry, refl)
at_index (entry ∷ cycle) (suc index) within = at_index cycle index (omega (arith, within))

-- the position after one step
one_on : (m : Machine) → m.position < length m.cycle →
    (stepped m).position ≡ (m.position + 1) % length m.cycle
one_on m within =
    let (entry, found) = at_index m.cycle m.position within in
    ap (λ o. (stepped_by o m).position) found

pub position_goes_round : (m : Machine) (n : ℕ) → m.position < length m.cycle →
    (steps n m).position ≡ (m.position + n) % length m.cycle
position_goes_round m zero within =
    let same : m.position + 0 ≡ m.position = omega arith in
    sym (ap (λ p. p % length m.cycle) same ∙ mod-eq_of_lt within)
position_goes_round m (suc n) within =
    let before = steps n m in
    let p = m.position in
    let len = length m.cycle in
    let cycle : length before.cycle ≡ len =
    ap (λ (k : Machine). length k.cycle) (only_planes_and_position m n) in
    let at : before.position ≡ (p + n) % len = position_goes_round m n within in
    let inside : (p + n) % len < len = mod-lt (p + n) (omega (arith, within)) in
    let sum : p + n + 1 ≡ p + suc n = omega arith in
    one_on before (omega (arith, inside, at, cycle)) ∙
    ap (λ l. (before.position + 1) % l) cycle ∙
    ap (λ q. (q + 1) % len) at ∙
    mod-add-mod (p + n) len 1 ∙
    ap (λ q. q % len) sum
