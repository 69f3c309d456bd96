-- A machine is what is loaded of what was saved of it, and nothing else is loaded.
use Rattle.std.proofs.Common.{◌≡◌, ◌≤◌, ◌<◌, ◌/◌, ℕ, Bool, true, false, ◌==◌, List, [], ◌∷◌}
use Rattle.std.proofs.Common.{length, Option, Some, None, cond, refl, sym, ap, ◌∙◌, subst, arith}
use Rattle.std.proofs.Common.{get_or}
use Rattle.std.specs.List.{list_all}
use Rattle.std.proofs.lemmas.Bool.{and_parts, eqb-true, leb-true}
use Rattle.std.proofs.lemmas.Option.{same_Some}
use Rattle.std.proofs.lemmas.List.FromFn.{fill_by_all}
use Rattle.cam6_planes.specs.Digits.{row_bytes}
use Rattle.cam6_planes.specs.Side.{side_number, side_of}
use Rattle.cam6_planes.specs.declared.sides.Side.{Side}
use Rattle.cam6_planes.specs.declared.sides.Side.TheVariants.{S128, S256, S512}
use Rattle.cam6_planes.specs.Cells.{Cells, torus}
use Rattle.cam6_planes.proofs.CellsAt.{torus_at}
use Rattle.cam6_planes.proofs.RowBytes.{row_bytes-is}
use Rattle.cam6_planes.proofs.SideNumbers.{side_of_number}
use Rattle.cam6_commands.specs.declared.commands.Command.TheVariants.{Load}
use Rattle.cam6_commands.specs.declared.faults.Fault.TheVariants.{AboveLimit, NoMachine}
use Rattle.cam6_commands.specs.declared.saved.SavedMachine.{SavedMachine}
use Rattle.cam6_model.specs.Machine.{Machine}
use Rattle.cam6_model.specs.Saved.{saved_of, saved_bit, restored, plane_bytes, four_planes}
use Rattle.cam6_model.specs.Refusals as refuse
use Rattle.cam6_model.specs.Alone.{after, replies}
use Rattle.cam6_model.specs.Always.{IsMachine}
use Rattle.cam6_model.specs.Laws.{LoadGivesBack, LoadTakesSaved, SavedOfOne, LoadedAnswersAlike}
use Rattle.cam6_model.specs.Laws.{AreBytes}
use Rattle.cam6_model.proofs.Staying.{no_fault, allowed}
use Rattle.cam6_model.proofs.SavedParts.{parts_found, accepted_is, after_load, saved_is}
use Rattle.cam6_model.proofs.FoundParts.{parts_of}
use Rattle.cam6_model.proofs.SavedPlanes.{planes_back}
use Rattle.cam6_model.proofs.RowsPut.{plane_at, rows_long, row_wide, eighths}

-- what was saved of a machine is it, but for the limit
restored_is : (m : Machine) (limit : Side) → IsMachine m →
    restored m.side limit (saved_of m) ≡ record m { limit = limit }
restored_is m limit is =
    ap {B = Machine} (λ (f : Cells). record m { limit = limit; planes = f })
    (planes_back m.side m.planes is.planes)

pub load_gives_back : LoadGivesBack
load_gives_back m n is within =
    let side = side_of_number m.side in
    let none = accepted_is n.limit m.side (saved_of m) side (parts_of m is) within in (
      ap refuse.fault_refusal none,
      after_load n (saved_of m) m.side side none ∙ restored_is m n.limit is,
    )

-- four planes, one by one
four_are : (planes : List (List (List ℕ))) → length planes ≡ 4 →
    planes
    ≡ get_or planes 0 [] ∷ get_or planes 1 [] ∷ get_or planes 2 [] ∷ get_or planes 3 [] ∷ []
four_are [] four = absurd (omega (arith, four))
four_are (a ∷ []) four = absurd (omega (arith, four))
four_are (a ∷ b ∷ []) four = absurd (omega (arith, four))
four_are (a ∷ b ∷ c ∷ []) four = absurd (omega (arith, four))
four_are (a ∷ b ∷ c ∷ d ∷ []) four = refl
four_are (a ∷ b ∷ c ∷ d ∷ e ∷ planes) four = absurd (omega (arith, four))

-- a number is that of its side
number_of_side : (n : ℕ) (side : Side) → side_of n ≡ Some side → n ≡ side_number side
number_of_side n side e = by_test (n == 128) (n == 256) (n == 512) refl refl refl e
  where
    same : (s : Side) → Some s ≡ Some side → n ≡ side_number s → n ≡ side_number side
    same s e is = is ∙ ap side_number (same_Some s side e)

    by_test : (a b c : Bool) → (n == 128) ≡ a → (n == 256) ≡ b → (n == 512) ≡ c →
        cond a (Some S128) (cond b (Some S256) (cond c (Some S512) None)) ≡ Some side →
        n ≡ side_number side
    by_test true b c is other last e = same S128 e (eqb-true n 128 is)
    by_test false true c is other last e = same S256 e (eqb-true n 256 other)
    by_test false false true is other last e = same S512 e (eqb-true n 512 last)
    by_test false false false is other last e = cc e

-- planes that were found to be those of a side are those that are saved of the cells that they show
module _ (side : Side) (planes : List (List (List ℕ))) (bytes : AreBytes planes)
    (are : refuse.are_planes (side_number side) planes ≡ true) where
  abbrev shown : Cells
  shown = torus (side_number side) (saved_bit planes)

  plane_same : (p : ℕ) → p < 4 → get_or planes p [] ≡ plane_bytes (side_number side) shown p
  unfolding plane_bytes
  plane_same p h =
      let s = side_number side in
      let rows = get_or planes p [] in
      let found = plane_at s p planes are h in
      let long = rows_long s rows found in
      fill_by_all (λ y. row_bytes (s / 8) (λ x. shown p x y)) rows s [] long
      (λ y within.
      let wide = row_wide s y rows found (omega (arith, within, long)) in
      row_bytes-is (s / 8) (λ x. shown p x y) (get_or rows y []) wide (λ i. bytes p y i)
      (λ x k. sym (torus_at s (saved_bit planes) p x y h (omega (arith, k, eighths side)) within)))

  planes_same : planes ≡ four_planes (side_number side) shown
  planes_same =
      let s = side_number side in
      let four = and_parts (length planes == 4) (list_all (refuse.are_rows s) planes) are in
      four_are planes (eqb-true (length planes) 4 four.0)
      ∙ rw (
        plane_same 0 (omega arith),
        plane_same 1 (omega arith),
        plane_same 2 (omega arith),
        plane_same 3 (omega arith),
      ) refl

-- what is found to be a machine's was saved of the one that is restored of it
saved_back : (side limit : Side) (saved : SavedMachine) → AreBytes saved.planes →
    side_of saved.side ≡ Some side → refuse.is_saved side saved ≡ true →
    saved ≡ saved_of (restored side limit saved)
saved_back side limit saved bytes is found =
    let are = parts_found side saved found in
    ap {B = SavedMachine} (λ k. record saved { side = k }) (number_of_side saved.side side is)
    ∙ ap {B = SavedMachine} (λ l. record saved { planes = l; side = side_number side })
    (planes_same side saved.planes bytes are.planes)

pub load_takes_saved : LoadTakesSaved
load_takes_saved n saved bytes texts none = by_side (side_of saved.side) refl (no_fault _ none)
  where
    taken : (side : Side) → side_of saved.side ≡ Some side → refuse.is_saved side saved ≡ true →
        side_number side ≤ side_number n.limit →
        IsMachine (after n (Load saved)) × (saved ≡ saved_of (after n (Load saved)))
    taken side is found within =
        subst (λ (k : Machine). IsMachine k × (saved ≡ saved_of k))
        (sym (after_load n saved side is (no_fault _ none))) (
          saved_is side n.limit saved texts found within,
          saved_back side n.limit saved bytes is found,
        )

    by_test : (side : Side) (b : Bool) → side_of saved.side ≡ Some side →
        refuse.is_saved side saved ≡ b →
        cond b (refuse.within_refusal n.limit (Some side)) (Some NoMachine) ≡ None →
        IsMachine (after n (Load saved)) × (saved ≡ saved_of (after n (Load saved)))
    by_test side false is e none = cc none
    by_test side true is e none = taken side is e (leb-true _ _ (allowed _ AboveLimit none))

    by_side : (asked : Option Side) → side_of saved.side ≡ asked →
        refuse.loaded_refusal n.limit asked saved ≡ None →
        IsMachine (after n (Load saved)) × (saved ≡ saved_of (after n (Load saved)))
    by_side None is none = cc none
    by_side (Some side) is none = by_test side (refuse.is_saved side saved) is refl none

-- sides of one number are one
one_side : (first second : Side) → side_number first ≡ side_number second → first ≡ second
one_side first second same =
    same_Some first second
    (sym (side_of_number first) ∙ ap side_of same ∙ side_of_number second)

pub saved_of_one : SavedOfOne
saved_of_one m n is other same =
    let side = one_side m.side n.side (ap (λ (saved : SavedMachine). saved.side) same) in
    sym (restored_is n n.limit other)
    ∙ ap (restored n.side n.limit) (sym same)
    ∙ ap (λ s. restored s n.limit (saved_of m)) (sym side)
    ∙ restored_is m n.limit is

pub loaded_answers_alike : LoadedAnswersAlike
loaded_answers_alike m n commands is limit =
    let within : side_number m.side ≤ side_number n.limit =
    subst (λ l. side_number m.side ≤ side_number l) limit is.within in
    ap (λ k. replies k commands)
    ((load_gives_back m n is within).1
    ∙ ap {B = Machine} (λ l. record m { limit = l }) (sym limit))
