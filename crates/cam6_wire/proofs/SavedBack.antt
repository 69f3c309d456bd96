-- The value of a saved machine is read as the machine.
use Rattle.std.proofs.Common.{◌≡◌, ℕ, ◌/◌, List, [], ◌∷◌, length, map, cond, codes}
use Rattle.std.proofs.Common.{Option, Some, None, refl, sym, ap, ◌∙◌, arith}
use Rattle.std.specs.List.{AllByRecursion}
use Rattle.std.proofs.lemmas.Bool.{eq-eqb}
use Rattle.hex.specs.Hex.{encode_lower}
use Rattle.hex.proofs.HexLemmas.{decode_sized-encode_lower}
use Rattle.serde_json.specs.View.{items_of}
use Rattle.cam6_planes.specs.Side.{side_number}
use Rattle.cam6_planes.specs.Digits.{bits_of_digits}
use Rattle.cam6_planes.proofs.DigitsRead.{digits_said}
use Rattle.cam6_wiring.specs.Wiring.{wired}
use Rattle.cam6_wiring.specs.Texts.{half_text, hood_text, minor_text}
use Rattle.cam6_wiring.specs.Texts.{half_named, hood_named, minor_named}
use Rattle.cam6_wiring.proofs.NamesOfTexts.{half_of_text, hood_of_text, minor_of_text}
use Rattle.cam6_commands.specs.declared.commands.NamedEntry.{NamedEntry}
use Rattle.cam6_commands.specs.declared.saved.NamedRule.{NamedRule}
use Rattle.cam6_commands.specs.declared.saved.SavedMachine.{SavedMachine}
use Rattle.cam6_wire.specs.Fields.{colours_at, number_at, ◌>>=◌}
use Rattle.cam6_wire.specs.Entries.{rule_name_in, entries_at}
use Rattle.cam6_wire.specs.Numbers.{texts}
use Rattle.cam6_wire.specs.Wirings.{wiring_in}
use Rattle.cam6_wire.specs.Saved.{name_text, entry_data, rule_data, rows_data, saved_data}
use Rattle.cam6_wire.specs.Loads.{rows_of, planes_of, of_four, planes_at, rule_in, rules_in}
use Rattle.cam6_wire.specs.Loads.{rules_at, saved_fields, saved_in}
use Rattle.cam6_wire.specs.Shown.{ShowsEntries}
use Rattle.cam6_wire.specs.Laws.{IsNameOrNone, IsSayableEntry, AreRowBytes, IsSayable}
use Rattle.cam6_wire.specs.declared.saved.Version.{Version}
use Rattle.cam6_wire.specs.declared.saved.Version.TheVariants.{First, Second}
use Rattle.cam6_wire.proofs.ColourLists.{colours_said}
use Rattle.cam6_wire.proofs.Telling.{entries_said, three_steps}

name_back : (o : Option (List ℕ)) → IsNameOrNone o → rule_name_in (name_text o) ≡ o
name_back None is = refl
name_back (Some name) is = is.1

entries_shown : (cycle : List NamedEntry) → AllByRecursion IsSayableEntry cycle →
    ShowsEntries (items_of (map entry_data cycle)) cycle
entries_shown [] are = tt
entries_shown (entry ∷ cycle) are = (
  (
    name_text entry.a,
    name_text entry.b,
    name_back entry.a are.0.a,
    name_back entry.b are.0.b,
    refl,
  ),
  entries_shown cycle are.1,
)

bits_back : (row : List ℕ) → AreRowBytes row → bits_of_digits (encode_lower row) ≡ Some row
bits_back row (side, long, small) =
    digits_said side (encode_lower row) row
    (decode_sized-encode_lower row (side_number side / 8) (omega (arith, long)) small)

rows_back : (rows : List (List ℕ)) → AllByRecursion AreRowBytes rows →
    rows_of (texts (map encode_lower rows)) ≡ Some rows
rows_back [] are = refl
rows_back (row ∷ rows) are =
    ap (λ o. o >>= λ row. rows_of (texts (map encode_lower rows)) >>= λ rows. Some (row ∷ rows))
    (bits_back row are.0) ∙
    ap (λ o. o >>= λ rows. Some (row ∷ rows)) (rows_back rows are.1)

planes_back : (planes : List (List (List ℕ))) →
    AllByRecursion (AllByRecursion AreRowBytes) planes →
    planes_of (items_of (map rows_data planes)) ≡ Some planes
planes_back [] are = refl
planes_back (rows ∷ planes) are =
    ap
    (λ o.
    o >>= λ rows. planes_of (items_of (map rows_data planes)) >>= λ planes. Some (rows ∷ planes))
    (rows_back rows are.0) ∙
    ap (λ o. o >>= λ planes. Some (rows ∷ planes)) (planes_back planes are.1)

four_back : (planes : List (List (List ℕ))) → length planes ≡ 4 →
    AllByRecursion (AllByRecursion AreRowBytes) planes →
    (planes_of (items_of (map rows_data planes)) >>= of_four) ≡ Some planes
four_back planes four are =
    ap (λ o. o >>= of_four) (planes_back planes are) ∙
    ap (λ b. cond b (Some planes) None) (eq-eqb (length planes) 4 four)

wiring_back : (rule : NamedRule) → wiring_in (rule_data rule) ≡ Some rule.wiring
unfolding wiring_in
wiring_back rule =
    three_steps (half_named (half_text rule.wiring.half)) (hood_named (hood_text rule.wiring.hood))
    (minor_named (minor_text rule.wiring.minor)) wired rule.wiring.half rule.wiring.hood
    rule.wiring.minor (half_of_text rule.wiring.half) (hood_of_text rule.wiring.hood)
    (minor_of_text rule.wiring.minor)

rule_back : (rule : NamedRule) → rule_in (rule_data rule) ≡ Some rule
unfolding rule_in
rule_back rule =
    ap
    (λ o.
    o >>= λ wiring. Some (record { name = rule.name; wiring = wiring; text = rule.text }))
    (wiring_back rule)

rules_back : (rules : List NamedRule) → rules_in (items_of (map rule_data rules)) ≡ Some rules
rules_back [] = refl
rules_back (rule ∷ rules) =
    ap
    (λ o.
    o >>= λ rule. rules_in (items_of (map rule_data rules)) >>= λ rules. Some (rule ∷ rules))
    (rule_back rule) ∙
    ap (λ o. o >>= λ rules. Some (rule ∷ rules)) (rules_back rules)

-- five steps that all give a value
five_steps : {A B C D E F : Type 0} (v : Option A) (w : Option B) (x : Option C) (y : Option D)
    (z : Option E) (make : A → B → C → D → E → F) (a : A) (b : B) (c : C) (d : D) (e : E) →
    v ≡ Some a → w ≡ Some b → x ≡ Some c → y ≡ Some d → z ≡ Some e →
    (v >>= λ a. w >>= λ b. x >>= λ c. y >>= λ d. z >>= λ e. Some (make a b c d e))
    ≡ Some (make a b c d e)
five_steps v w x y z make a b c d e is_a is_b is_c is_d is_e =
    ap (λ v. v >>= λ a. w >>= λ b. x >>= λ c. y >>= λ d. z >>= λ e. Some (make a b c d e)) is_a ∙
    ap (λ w. w >>= λ b. x >>= λ c. y >>= λ d. z >>= λ e. Some (make a b c d e)) is_b ∙
    ap (λ x. x >>= λ c. y >>= λ d. z >>= λ e. Some (make a b c d e)) is_c ∙
    ap (λ y. y >>= λ d. z >>= λ e. Some (make a b c d e)) is_d ∙
    ap (λ z. z >>= λ e. Some (make a b c d e)) is_e

-- what was saved, of a machine of this side
abbrev pub made : ℕ → List ℕ → List NamedEntry → List (List (List ℕ)) → ℕ → List NamedRule →
    SavedMachine
made side colours cycle planes position rules = record {
  colours = colours;
  cycle = cycle;
  planes = planes;
  position = position;
  rules = rules;
  side = side;
}

fields_back : (version : Version) (saved : SavedMachine) (side : ℕ) → IsSayable version saved →
    saved_fields side (saved_data version saved)
    ≡ Some
    (made side saved.colours saved.cycle saved.planes saved.position saved.rules)
fields_back version saved side is =
    let d = saved_data version saved in
    five_steps (colours_at (codes "colours") d) (entries_at (codes "cycle") d)
    (planes_at (codes "planes") d) (number_at (codes "position") d) (rules_at (codes "rules") d)
    (made side) saved.colours saved.cycle saved.planes saved.position saved.rules
    (colours_said saved.colours is.states)
    (entries_said (items_of (map entry_data saved.cycle)) saved.cycle
    (entries_shown saved.cycle is.cycle))
    (four_back saved.planes is.four is.planes) refl (rules_back saved.rules)

-- the value of a machine, in either version, shows it
pub saved_back : (version : Version) (saved : SavedMachine) → IsSayable version saved →
    saved_in (saved_data version saved) ≡ Some saved
unfolding saved_in
saved_back First saved is =
    fields_back First saved 256 is ∙
    ap
    (λ side.
    Some (made side saved.colours saved.cycle saved.planes saved.position saved.rules))
    (sym is.side)
saved_back Second saved is = fields_back Second saved saved.side is
