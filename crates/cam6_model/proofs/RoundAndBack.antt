-- Steps along a cycle and steps back along it undo each other.
use Rattle.std.proofs.Common.{◌≡◌, ℕ, zero, suc, ◌+◌, [], length, Some}
use Rattle.std.proofs.Common.{refl, sym, subst, ◌∙◌, ap, arith, slice_get, inl, inr}
use Rattle.std.proofs.Math.Nat.{mod-lt}
use Rattle.cam6_planes.specs.Cells.{Cells}
use Rattle.cam6_planes.specs.Side.{side_number}
use Rattle.cam6_cycle.specs.Along.{next, previous}
use Rattle.cam6_cycle.proofs.RoundTheCycle.{undo_each_other}
use Rattle.cam6_model.specs.Cycles.{entry_rules}
use Rattle.cam6_model.specs.Undoing.{IsReversibleEntry}
use Rattle.cam6_model.specs.Machine.{Machine, stepped_by, stepped, steps}
use Rattle.cam6_model.specs.Machine.{unstepped_by, unstepped, unsteps, IsReversibleCycle}
use Rattle.cam6_model.specs.Always.{IsPosition, IsMachine}
use Rattle.cam6_model.specs.Laws.{IsOfBlocks, UndoingUndoes, DoingRedoes}
use Rattle.cam6_commands.specs.declared.commands.NamedEntry.{NamedEntry}
use Rattle.cam6_model.proofs.RulesOfEntries.{entry_or_none, entry_at, is_position, of_entry}
use Rattle.cam6_model.proofs.RulesOfEntries.{AreSound, sound_if_named, is_of_blocks}
use Rattle.cam6_model.proofs.StepsOfATorus.{AreWhole, step_whole, unstep_whole, side_some}
use Rattle.cam6_model.proofs.StepsOfATorus.{side_even}
use Rattle.cam6_model.proofs.StepsBack.{previous-lt}
use Rattle.cam6_model.proofs.StepsUndone.{unstep-step, step-unstep}

-- what steps and steps back along a cycle keep, and what lets them undo each other
pub record IsReady (m : Machine) : Type 0 where
  pub whole : AreWhole m
  pub sound : AreSound m.rules
  pub reversible : IsReversibleCycle m
  pub position : IsPosition m.cycle m.position

-- without a cycle nothing is done
stays : (m : Machine) → m.cycle ≡ [] → stepped m ≡ m
stays m none = ap (λ cycle. stepped_by (slice_get cycle m.position) m) none

stays_back : (m : Machine) → m.cycle ≡ [] → unstepped m ≡ m
stays_back m none =
    ap (λ cycle.
    let before = previous (length cycle) m.position in
    unstepped_by before (slice_get cycle before) m) none

-- with the entry at the position a step is done, and with the one before it a step is undone
goes_on : (m : Machine) (entry : NamedEntry) → slice_get m.cycle m.position ≡ Some entry →
    stepped m ≡ stepped_by (Some entry) m
goes_on m entry found = ap (λ o. stepped_by o m) found

goes_back : (m : Machine) (index : ℕ) (entry : NamedEntry) →
    previous (length m.cycle) m.position ≡ index → slice_get m.cycle index ≡ Some entry →
    unstepped m ≡ unstepped_by index (Some entry) m
goes_back m index entry before found =
    ap (λ q. unstepped_by q (slice_get m.cycle q) m) before ∙
    ap (λ o. unstepped_by index o m) found

-- an entry's rules are rules of blocks
entry_of_blocks : (m : Machine) (index : ℕ) (entry : NamedEntry) → IsReady m →
    slice_get m.cycle index ≡ Some entry →
    let rules = entry_rules m.rules entry in
    IsReversibleEntry rules × IsOfBlocks rules.a × IsOfBlocks rules.b
entry_of_blocks m index entry is found =
    let can : IsReversibleEntry (entry_rules m.rules entry) =
    of_entry (λ e. IsReversibleEntry (entry_rules m.rules e)) m.cycle index entry is.reversible
    found in
    let rules = entry_rules m.rules entry in (
      can,
      is_of_blocks rules.a (sound_if_named m.rules entry.a is.sound) can.0,
      is_of_blocks rules.b (sound_if_named m.rules entry.b is.sound) can.1,
    )

stepped_ready : (m : Machine) → IsReady m → IsReady (stepped m)
stepped_ready m is = elim (entry_or_none m.cycle m.position is.position) [
  | inl none ↦ subst IsReady (sym (stays m none)) is
  | inr within ↦
      let (entry, found) = entry_at m.cycle m.position within in
      subst IsReady (sym (goes_on m entry found)) (record {
        whole = step_whole (side_number m.side) (entry_rules m.rules entry) m.planes
            (side_some m.side);
        sound = is.sound;
        reversible = is.reversible;
        position = is_position m.cycle (next (length m.cycle) m.position)
            (mod-lt (m.position + 1) (omega (arith, within)));
      })
]

unstepped_ready : (m : Machine) → IsReady m → IsReady (unstepped m)
unstepped_ready m is = elim (entry_or_none m.cycle m.position is.position) [
  | inl none ↦ subst IsReady (sym (stays_back m none)) is
  | inr within ↦
      let index = previous (length m.cycle) m.position in
      let inside = previous-lt (length m.cycle) m.position within in
      let (entry, found) = entry_at m.cycle index inside in
      subst IsReady (sym (goes_back m index entry refl found)) (record {
        whole = unstep_whole (side_number m.side) (entry_rules m.rules entry) m.planes
            (side_some m.side);
        sound = is.sound;
        reversible = is.reversible;
        position = is_position m.cycle index inside;
      })
]

-- a step that is undone, and a step back that is done again
once_back : (m : Machine) → IsReady m → unstepped (stepped m) ≡ m
once_back m is = elim (entry_or_none m.cycle m.position is.position) [
  | inl none ↦ ap unstepped (stays m none) ∙ stays_back m none
  | inr within ↦
      let (entry, found) = entry_at m.cycle m.position within in
      let rules = entry_rules m.rules entry in
      let s = side_number m.side in
      let (can, a, b) = entry_of_blocks m m.position entry is found in
      let before = (undo_each_other (length m.cycle) m.position within).0 in
      ap unstepped (goes_on m entry found) ∙
      goes_back (stepped_by (Some entry) m) m.position entry before found ∙
      ap {B = Machine} (λ (f : Cells). record m { planes = f; position = m.position })
      (unstep-step s rules (side_some m.side) (side_even m.side) can m.planes a b is.whole)
]

once_on : (m : Machine) → IsReady m → stepped (unstepped m) ≡ m
once_on m is = elim (entry_or_none m.cycle m.position is.position) [
  | inl none ↦ ap stepped (stays_back m none) ∙ stays m none
  | inr within ↦
      let index = previous (length m.cycle) m.position in
      let (entry, found) =
      entry_at m.cycle index (previous-lt (length m.cycle) m.position within) in
      let rules = entry_rules m.rules entry in
      let s = side_number m.side in
      let (can, a, b) = entry_of_blocks m index entry is found in
      let after = (undo_each_other (length m.cycle) m.position within).1 in
      ap stepped (goes_back m index entry refl found) ∙
      goes_on (unstepped_by index (Some entry) m) entry found ∙
      ap {B = Machine} (λ (f : Cells).
      record m { planes = f; position = next (length m.cycle) index })
      (step-unstep s rules (side_some m.side) (side_even m.side) can m.planes a b is.whole) ∙
      ap {B = Machine} (λ p. record m { position = p }) after
]

-- the first of many steps may be taken first
steps_inner : (n : ℕ) (m : Machine) → steps (suc n) m ≡ steps n (stepped m)
steps_inner zero m = refl
steps_inner (suc n) m = ap stepped (steps_inner n m)

unsteps_inner : (n : ℕ) (m : Machine) → unsteps (suc n) m ≡ unsteps n (unstepped m)
unsteps_inner zero m = refl
unsteps_inner (suc n) m = ap unstepped (unsteps_inner n m)

pub steps_ready : (n : ℕ) (m : Machine) → IsReady m → IsReady (steps n m)
steps_ready zero m is = is
steps_ready (suc n) m is = stepped_ready (steps n m) (steps_ready n m is)

pub unsteps_ready : (n : ℕ) (m : Machine) → IsReady m → IsReady (unsteps n m)
unsteps_ready zero m is = is
unsteps_ready (suc n) m is = unstepped_ready (unsteps n m) (unsteps_ready n m is)

undone : (n : ℕ) (m : Machine) → IsReady m → unsteps n (steps n m) ≡ m
undone zero m is = refl
undone (suc n) m is =
    unsteps_inner n (stepped (steps n m)) ∙
    ap (unsteps n) (once_back (steps n m) (steps_ready n m is)) ∙ undone n m is

redone : (n : ℕ) (m : Machine) → IsReady m → steps n (unsteps n m) ≡ m
redone zero m is = refl
redone (suc n) m is =
    steps_inner n (unstepped (unsteps n m)) ∙
    ap (steps n) (once_on (unsteps n m) (unsteps_ready n m is)) ∙ redone n m is

-- a machine is ready where its cycle can be undone
pub is_ready : (m : Machine) → IsMachine m → IsReversibleCycle m → IsReady m
is_ready m is can = record {
  whole = is.planes;
  sound = is.rules.sound;
  reversible = can;
  position = is.position;
}

pub undoing_undoes : UndoingUndoes
undoing_undoes m n is can = undone n m (is_ready m is can)

pub doing_redoes : DoingRedoes
doing_redoes m n is can = redone n m (is_ready m is can)
