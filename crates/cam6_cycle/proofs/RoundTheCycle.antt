-- Going on along a cycle, and going back.
use Rattle.std.proofs.Common.{◌≡◌, ℕ, zero, suc, ◌+◌, ◌-◌, ◌<◌, ◌%◌, arith, refl, ap, ◌∙◌}
use Rattle.std.proofs.Math.Nat.{mod_self, mod-eq_of_lt}
use native.Mathlib.Decide.{dec_lt}
use Rattle.cam6_cycle.specs.Along.{next, previous}
use Rattle.cam6_cycle.specs.Laws.{UndoEachOther}
use Rattle.cam6_cycle.specs.declared.tables.Direction.TheVariants.{Forward, Backward}

there_and_back : (n position : ℕ) → position < n → previous n (next n position) ≡ position
there_and_back n position within =
    elim (dec_lt (position + 1) n) [
      | Prim.yes lt ↦
          let one : position + 1 ≡ suc position = omega arith in
          ap (previous n) (mod-eq_of_lt lt ∙ one)
      | Prim.no ge ↦
          let all : position + 1 ≡ n = omega (arith, ge, within) in
          ap (previous n) (ap (λ k. k % n) all ∙ mod_self n) ∙ omega (arith, all)
    ]

back_and_there : (n position : ℕ) → position < n → next n (previous n position) ≡ position
back_and_there n zero within =
    let all : n - 1 + 1 ≡ n = omega (arith, within) in ap (λ k. k % n) all ∙ mod_self n
back_and_there n (suc position) within =
    let one : position + 1 ≡ suc position = omega arith in
    ap (λ k. k % n) one ∙ mod-eq_of_lt within

pub undo_each_other : (n position : ℕ) → position < n →
    (previous n (next n position) ≡ position) × (next n (previous n position) ≡ position)
undo_each_other n position within =
    (there_and_back n position within, back_and_there n position within)

pub ways_undo_each_other : UndoEachOther
ways_undo_each_other Forward n position within =
    let same = (undo_each_other n position within).0 in (same, same)
ways_undo_each_other Backward n position within = ((undo_each_other n position within).1, refl)
