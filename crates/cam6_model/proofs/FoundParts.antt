-- What is saved of a machine has the parts of one.
use Rattle.std.proofs.Common.{◌≡◌, ◌≤◌, ◌/◌, ℕ, Bool, true, ◌&&◌, ◌==◌, List, [], ◌∷◌, map}
use Rattle.std.proofs.Common.{length, Option, Some, None, cond, refl, ap, ◌∙◌, is_none, nat_le}
use Rattle.std.proofs.Common.{nat_lt, arith}
use Rattle.std.specs.List.{AllByRecursion, list_all, range_with_len}
use Rattle.std.proofs.lemmas.Bool.{le-leb, lt-ltb, eq-eqb, and_from}
use Rattle.cam6_planes.specs.Digits.{row_bytes}
use Rattle.cam6_planes.specs.Side.{side_number}
use Rattle.cam6_planes.specs.Cells.{Cells}
use Rattle.cam6_planes.proofs.RowBytes.{row_bytes-long}
use Rattle.cam6_wiring.specs.Name.{is_same_half}
use Rattle.cam6_wiring.specs.declared.names.Half.{Half}
use Rattle.cam6_wiring.specs.declared.names.Half.TheVariants as half
use Rattle.cam6_cycle.specs.Limits.{max_entries}
use Rattle.cam6_commands.specs.Limits.{max_colour, cell_states}
use Rattle.cam6_commands.specs.Checks.{unless}
use Rattle.cam6_commands.specs.declared.commands.NamedEntry.{NamedEntry}
use Rattle.cam6_commands.specs.declared.faults.Fault.TheVariants.{OutOfRange, WrongHalf}
use Rattle.cam6_model.specs.Rules.{Rule, wiring_for}
use Rattle.cam6_model.specs.Machine.{Machine}
use Rattle.cam6_model.specs.Saved.{saved_of, plane_bytes, four_planes}
use Rattle.cam6_model.specs.Refusals as refuse
use Rattle.cam6_model.specs.Always.{IsNamed, IsEntry, IsPosition, IsMachine}
use Rattle.cam6_model.proofs.LoadedRules.{rules_found}
use Rattle.cam6_model.proofs.SavedParts.{AreParts}
use Rattle.cam6_model.proofs.SavedPlanes.{plane_bytes-long}

all_map : {A B : Type 0} (P : B → Bool) (f : A → B) (xs : List A) → ((x : A) → P (f x) ≡ true) →
    list_all P (map f xs) ≡ true
all_map P f [] all = refl
all_map P f (x ∷ xs) all = and_from (P (f x)) (list_all P (map f xs)) (all x) (all_map P f xs all)

rows_found : (s : ℕ) (f : Cells) (p : ℕ) → refuse.are_rows s (plane_bytes s f p) ≡ true
unfolding plane_bytes
rows_found s f p =
    and_from (length (plane_bytes s f p) == s) (list_all (refuse.is_row s) (plane_bytes s f p))
    (eq-eqb (length (plane_bytes s f p)) s (plane_bytes-long s f p))
    (all_map (refuse.is_row s) (λ y. row_bytes (s / 8) (λ x. f p x y)) (range_with_len 0 s)
    (λ y. eq-eqb (length (row_bytes (s / 8) (λ x. f p x y))) (s / 8)
    (row_bytes-long (s / 8) (λ x. f p x y))))

planes_found : (s : ℕ) (f : Cells) → refuse.are_planes s (four_planes s f) ≡ true
planes_found s f =
    rw (rows_found s f 0, rows_found s f 1, rows_found s f 2, rows_found s f 3) refl

small_found : (colours : List ℕ) → AllByRecursion (λ colour. colour ≤ max_colour) colours →
    list_all (λ colour. nat_le colour max_colour) colours ≡ true
small_found [] are = refl
small_found (colour ∷ colours) are =
    and_from (nat_le colour max_colour) (list_all (λ colour. nat_le colour max_colour) colours)
    (le-leb colour max_colour are.0) (small_found colours are.1)

colours_found : (colours : List ℕ) → length colours ≡ cell_states →
    AllByRecursion (λ colour. colour ≤ max_colour) colours → refuse.map_refusal colours ≡ None
colours_found colours sixteen are =
    ap (λ b. unless b OutOfRange)
    (and_from (length colours == cell_states)
    (list_all (λ colour. nat_le colour max_colour) colours)
    (eq-eqb (length colours) cell_states sixteen) (small_found colours are))

half_itself : (h : Half) → is_same_half h h ≡ true
half_itself half.A = refl
half_itself half.B = refl

half_found : (rules : List Rule) (h : Half) (o : Option (List ℕ)) → IsNamed rules h o →
    refuse.half_refusal rules h o ≡ None
half_found rules h None named = refl
half_found rules h (Some name) (rule, found, of_half) =
    ap (λ r. refuse.wiring_refusal h (wiring_for r)) found
    ∙ ap (λ k. cond (is_same_half k h) None (Some WrongHalf)) of_half
    ∙ ap (λ b. cond b None (Some WrongHalf)) (half_itself h)

none_refused : (rules : List Rule) (cycle : List NamedEntry) →
    AllByRecursion (IsEntry rules) cycle → refuse.first_refusal rules cycle ≡ None
none_refused rules [] are = refl
none_refused rules (entry ∷ cycle) are =
    ap (λ o. refuse.or_then (refuse.or_then o (refuse.half_refusal rules half.B entry.b))
    (refuse.first_refusal rules cycle)) (half_found rules half.A entry.a are.0.0)
    ∙ ap (λ o. refuse.or_then o (refuse.first_refusal rules cycle))
    (half_found rules half.B entry.b are.0.1)
    ∙ none_refused rules cycle are.1

phases_found : (rules : List Rule) (cycle : List NamedEntry) →
    AllByRecursion (IsEntry rules) cycle → refuse.have_phases cycle ≡ true
phases_found rules [] are = refl
phases_found rules (entry ∷ cycle) are =
    and_from (nat_lt entry.phase 4) (refuse.have_phases cycle) (lt-ltb entry.phase 4 are.0.2)
    (phases_found rules cycle are.1)

entries_found : (rules : List Rule) (cycle : List NamedEntry) → length cycle ≤ max_entries →
    AllByRecursion (IsEntry rules) cycle → refuse.are_entries rules cycle ≡ true
entries_found rules [] few are = refl
entries_found rules (entry ∷ entries) few are =
    let cycle = entry ∷ entries in
    let named : refuse.is_named_cycle cycle ≡ true =
    and_from (nat_le 1 (length cycle) && nat_le (length cycle) max_entries)
    (refuse.have_phases cycle)
    (and_from (nat_le 1 (length cycle)) (nat_le (length cycle) max_entries)
    (le-leb 1 (length cycle) (omega arith)) (le-leb (length cycle) max_entries few))
    (phases_found rules cycle are) in
    ap (λ b. is_none (cond b (refuse.first_refusal rules cycle) (Some OutOfRange))) named
    ∙ ap is_none (none_refused rules cycle are)

position_found : (cycle : List NamedEntry) (position : ℕ) → IsPosition cycle position →
    refuse.is_position cycle position ≡ true
position_found [] position is = eq-eqb position 0 is
position_found (entry ∷ cycle) position is = lt-ltb position (length (entry ∷ cycle)) is

pub parts_of : (m : Machine) → IsMachine m → AreParts m.side (saved_of m)
parts_of m is = record {
  planes = planes_found (side_number m.side) m.planes;
  colours = colours_found m.colours is.coloured is.colours;
  rules = rules_found m.rules is.rules;
  entries = entries_found m.rules m.cycle is.short is.entries;
  position = position_found m.cycle m.position is.position;
}
