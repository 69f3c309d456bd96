-- What follows of steps, whichever way they go.
use Rattle.std.proofs.Common.{◌≡◌, ℕ, zero, suc, ◌+◌, ◌-◌, ◌<◌, ◌%◌, length, Option, None}
use Rattle.std.proofs.Common.{sym, ap, ◌∙◌, arith, Bool}
use Rattle.std.proofs.Math.Nat.{mod-add-mod, mod-eq_of_lt, mod-lt, add-mod_right, mod_self}
use Rattle.std.proofs.Math.Nat.{suc-mod, zero-mod}
use native.Mathlib.Decide.{dec_lt}
use Rattle.cam6_planes.specs.Cells.{Cells}
use Rattle.cam6_planes.proofs.CellsAt.{torus_at}
use Rattle.cam6_wiring.specs.Name.{plane_of, on_plane}
use Rattle.cam6_wiring.specs.declared.names.Half.{Half}
use Rattle.cam6_wiring.specs.declared.names.Level.{Level}
use Rattle.cam6_cycle.specs.Along.{previous}
use Rattle.cam6_cycle.specs.declared.tables.Direction.TheVariants.{Forward, Backward}
use Rattle.cam6_model.specs.Rules.{Rule}
use Rattle.cam6_model.specs.Cycles.{EntryRules, rule_for}
use Rattle.cam6_model.specs.Undoing.{changed_cell, blockwise, undone_by, unstep}
use Rattle.cam6_model.specs.Machine.{Machine, unstepped_by, unstepped, unsteps}
use Rattle.cam6_model.specs.Laws as laws
use Rattle.cam6_model.proofs.StepLaws.{plane_of-lt, on_plane-of, kept_on, steps_add_up}
use Rattle.cam6_model.proofs.StepLaws.{only_planes_and_position, position_goes_round, at_index}
use Rattle.cam6_model.proofs.StepsBack.{only_these_back, previous-lt}

kept_back : (s : ℕ) (entry : EntryRules) (f : Cells) (half : Half) (level : Level) (x y : ℕ) →
    x < s → y < s → rule_for half entry ≡ None →
    unstep s entry f (plane_of half level) x y ≡ f (plane_of half level) x y
unfolding blockwise
kept_back s entry f half level x y h k none =
    let by : Option Rule → Half → Level → Bool = λ rule half level.
    changed_cell s f entry.grid half (undone_by entry.phase rule) level x y in
    let new : Cells = λ p x y. on_plane p (λ half level.
    changed_cell s f entry.grid half (undone_by entry.phase (rule_for half entry)) level x y) in
    torus_at s new (plane_of half level) x y (plane_of-lt half level) h k ∙
    on_plane-of half level (λ half level. by (rule_for half entry) half level) ∙
    ap (λ rule. by rule half level) none

pub keeps_its_planes : laws.KeepsItsPlanes
keeps_its_planes Forward s entry f half level x y h k none =
    kept_on s entry f half level x y h k none
keeps_its_planes Backward s entry f half level x y h k none =
    kept_back s entry f half level x y h k none

unsteps_add_up : (m : Machine) (first later : ℕ) →
    unsteps (first + later) m ≡ unsteps later (unsteps first m)
unsteps_add_up m first zero =
    let none_more : first + 0 ≡ first = omega arith in ap (λ n. unsteps n m) none_more
unsteps_add_up m first (suc later) =
    let one_more : first + suc later ≡ suc (first + later) = omega arith in
    ap (λ n. unsteps n m) one_more ∙ ap unstepped (unsteps_add_up m first later)

pub moves_add_up : laws.StepsAddUp
moves_add_up Forward m first later = steps_add_up m first later
moves_add_up Backward m first later = unsteps_add_up m first later

pub only_these : laws.OnlyPlanesAndPosition
only_these Forward m n = only_planes_and_position m n
only_these Backward m n = only_these_back m n

-- the position before this one, by what remains after a division
previous_mod : (n p : ℕ) → p < n → previous n p ≡ (p + (n - 1)) % n
previous_mod n zero within =
    let less : n - 1 < n = omega (arith, within) in
    let same : 0 + (n - 1) ≡ n - 1 = omega arith in
    sym (ap (λ k. k % n) same ∙ mod-eq_of_lt less)
previous_mod n (suc p) within =
    let sum : suc p + (n - 1) ≡ p + n = omega (arith, within) in
    let less : p < n = omega (arith, within) in
    sym (ap (λ k. k % n) sum ∙ add-mod_right p n ∙ mod-eq_of_lt less)

-- the position after one step undone
one_back : (m : Machine) → m.position < length m.cycle →
    (unstepped m).position ≡ previous (length m.cycle) m.position
one_back m within =
    let index = previous (length m.cycle) m.position in
    let (entry, found) = at_index m.cycle index (previous-lt (length m.cycle) m.position within) in
    ap (λ o. (unstepped_by index o m).position) found

-- one step more is one less of what is left of a round
one_less : (len p n : ℕ) → 0 < len →
    (p + (len - n % len) + (len - 1)) % len ≡ (p + (len - suc n % len)) % len
one_less len p n some =
    by_end (n % len) (mod-lt n some) (suc-mod n len)
  where
    by_end : (r : ℕ) → r < len → suc n % len ≡ suc r % len →
        (p + (len - r) + (len - 1)) % len ≡ (p + (len - suc n % len)) % len
    by_end r less next = elim (dec_lt (suc r) len) [
      | Prim.yes more ↦
          let sum : p + (len - r) + (len - 1) ≡ p + (len - suc r) + len =
          omega (arith, more, some) in
          ap (λ k. k % len) sum ∙ add-mod_right (p + (len - suc r)) len ∙
          sym (ap (λ k. (p + (len - k)) % len) (next ∙ mod-eq_of_lt more))
      | Prim.no last ↦
          let end : suc r ≡ len = omega (arith, less, last) in
          let round : suc n % len ≡ 0 = next ∙ ap (λ k. k % len) end ∙ mod_self len in
          let sum : p + (len - r) + (len - 1) ≡ p + (len - 0) = omega (arith, end) in
          ap (λ k. k % len) sum ∙ sym (ap (λ k. (p + (len - k)) % len) round)
    ]

goes_back_round : (m : Machine) (n : ℕ) → m.position < length m.cycle →
    (unsteps n m).position ≡ (m.position + (length m.cycle - n % length m.cycle)) % length m.cycle
goes_back_round m zero within =
    let len = length m.cycle in
    let whole : m.position + (len - 0) ≡ m.position + len = omega arith in
    sym (ap (λ k. (m.position + (len - k)) % len) (zero-mod len) ∙
    ap (λ k. k % len) whole ∙ add-mod_right m.position len ∙ mod-eq_of_lt within)
goes_back_round m (suc n) within =
    let before = unsteps n m in
    let p = m.position in
    let len = length m.cycle in
    let some : 0 < len = omega (arith, within) in
    let cycle : length before.cycle ≡ len =
    ap (λ (k : Machine). length k.cycle) (only_these_back m n) in
    let at : before.position ≡ (p + (len - n % len)) % len = goes_back_round m n within in
    let inside : (p + (len - n % len)) % len < len = mod-lt (p + (len - n % len)) some in
    one_back before (omega (arith, inside, at, cycle)) ∙
    ap (λ l. previous l before.position) cycle ∙
    ap (previous len) at ∙
    previous_mod len ((p + (len - n % len)) % len) inside ∙
    mod-add-mod (p + (len - n % len)) len (len - 1) ∙
    one_less len p n some

pub goes_round : laws.PositionGoesRound
goes_round Forward m n within = position_goes_round m n within
goes_round Backward m n within = goes_back_round m n within
