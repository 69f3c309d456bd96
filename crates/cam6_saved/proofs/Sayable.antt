-- What is saved of a machine can be said in each version that has its side.
use Rattle.std.proofs.Common.{◌≡◌, ◌≤◌, ◌/◌, ℕ, Bool, true, false, not, List, [], ◌∷◌}
use Rattle.std.proofs.Common.{map, length, codes, Option, Some, None, cond, bytes_eq, IsUtf8, refl}
use Rattle.std.proofs.Common.{ap, sym, arith, subst, nat_le, nat_lt}
use Rattle.std.specs.List.{AllByRecursion, list_all, range_with_len}
use Rattle.std.proofs.lemmas.Bool.{and_parts, and_from, leb-true, lt-ltb, not-true}
use Rattle.json.proofs.Printed.Utf8.{are_ascii, IsUtf8-are_ascii}
use Rattle.cam6_planes.specs.Cells.{Cells}
use Rattle.cam6_planes.specs.Digits.{row_bytes}
use Rattle.cam6_planes.specs.Side.{side_number}
use Rattle.cam6_planes.specs.declared.sides.Side.{Side}
use Rattle.cam6_planes.proofs.RowBytes.{row_bytes-long, row_bytes-small}
use Rattle.cam6_planes.proofs.SideNumbers.{side_most, side_words}
use Rattle.cam6_wiring.specs.declared.names.Half.{Half}
use Rattle.cam6_wiring.specs.declared.names.Half.TheVariants as half
use Rattle.cam6_cycle.specs.Limits.{max_entries}
use Rattle.cam6_commands.specs.Limits.{max_name, max_colour}
use Rattle.cam6_commands.specs.Names.{is_name_byte, is_rule_name}
use Rattle.cam6_commands.specs.declared.commands.NamedEntry.{NamedEntry}
use Rattle.cam6_model.specs.Rules.{Rule, rule_named}
use Rattle.cam6_model.specs.Machine.{Machine}
use Rattle.cam6_model.specs.Saved.{saved_of, plane_bytes}
use Rattle.cam6_model.specs.Always.{IsNamed, IsEntry, IsPosition, IsMachine}
use Rattle.cam6_model.proofs.Names.{same_bytes}
use Rattle.cam6_wire.specs.Entries.{rule_name_in}
use Rattle.cam6_wire.specs.Laws.{IsWord, IsNameOrNone, IsSayableEntry, AreRowBytes, IsSideIn}
use Rattle.cam6_wire.specs.Laws.{IsSayable}
use Rattle.cam6_wire.specs.declared.saved.Version.{Version}
use Rattle.cam6_wire.specs.declared.saved.Version.TheVariants.{First, Second}
use Rattle.cam6_saved.specs.Texts.{IsOfVersion}

-- what follows for one follows for all
pub all_then : {A : Type 0} (P Q : A → Type 0) → ((a : A) → P a → Q a) → (xs : List A) →
    AllByRecursion P xs → AllByRecursion Q xs
all_then P Q follows [] are = tt
all_then P Q follows (x ∷ xs) are = (follows x are.0, all_then P Q follows xs are.1)

-- names

below_128 : (b : ℕ) → is_name_byte b ≡ true → nat_lt b 128 ≡ true
below_128 b is =
    let range = (and_parts _ _ (and_parts _ _ is).0).0 in
    let most = leb-true b 126 (and_parts (nat_le 33 b) (nat_le b 126) range).1 in
    lt-ltb b 128 (omega (arith, most))

ascii_name : (name : List ℕ) → list_all is_name_byte name ≡ true → are_ascii name ≡ true
ascii_name [] are = refl
ascii_name (b ∷ name) are =
    let (first, later) = and_parts (is_name_byte b) (list_all is_name_byte name) are in
    and_from (nat_lt b 128) (are_ascii name) (below_128 b first) (ascii_name name later)

-- the name of a rule is short, it isn't the text that stands for none, and its bytes are ASCII
record HasNameParts (name : List ℕ) : Type 0 where
  short : length name ≤ max_name
  other : bytes_eq name (codes "-") ≡ false
  bytes : list_all is_name_byte name ≡ true

name_parts : (name : List ℕ) → is_rule_name name ≡ true → HasNameParts name
name_parts name is =
    let (front, bytes) = and_parts _ (list_all is_name_byte name) is in
    let (lengths, other) = and_parts _ (not (bytes_eq name (codes "-"))) front in
    let (least, most) = and_parts (nat_le 1 (length name)) _ lengths in record {
      short = leb-true (length name) max_name most;
      other = not-true (bytes_eq name (codes "-")) other;
      bytes = bytes;
    }

pub short_name : (name : List ℕ) → is_rule_name name ≡ true → length name ≤ max_name
short_name name is = (name_parts name is).short

utf8_name : (name : List ℕ) → is_rule_name name ≡ true → IsUtf8 name
utf8_name name is = IsUtf8-are_ascii name (ascii_name name (name_parts name is).bytes)

itself : (name : List ℕ) → is_rule_name name ≡ true → rule_name_in name ≡ Some name
itself name is = ap (λ b. cond b None (Some name)) (name_parts name is).other

-- a name under which there is a rule is a rule's name
named_so : (name : List ℕ) (rules : List Rule) (rule : Rule) →
    AllByRecursion (λ rule. is_rule_name rule.name ≡ true) rules →
    rule_named name rules ≡ Some rule → is_rule_name name ≡ true
named_so name [] rule are found = cc found
named_so name (first ∷ rules) rule are found =
    by_test (bytes_eq name first.name) refl found (λ later. named_so name rules rule are.1 later)
  where
    by_test : (b : Bool) → bytes_eq name first.name ≡ b →
        cond b (Some first) (rule_named name rules) ≡ Some rule →
        (rule_named name rules ≡ Some rule → is_rule_name name ≡ true) →
        is_rule_name name ≡ true
    by_test true is found rest =
        subst (λ k. is_rule_name k ≡ true) (sym (same_bytes name first.name is)) are.0
    by_test false is found rest = rest found

-- an entry's name for a half, if it has one
pub name_of_entry : (rules : List Rule) (h : Half) (name : List ℕ) →
    AllByRecursion (λ rule. is_rule_name rule.name ≡ true) rules →
    IsNamed rules h (Some name) → is_rule_name name ≡ true
name_of_entry rules h name are (rule, found, of_half) = named_so name rules rule are found

sayable_name : (rules : List Rule) (h : Half) (o : Option (List ℕ)) →
    AllByRecursion (λ rule. is_rule_name rule.name ≡ true) rules → IsNamed rules h o →
    IsNameOrNone o
sayable_name rules h None are named = tt
sayable_name rules h (Some name) are named =
    let is = name_of_entry rules h name are named in (utf8_name name is, itself name is)

sayable_entry : (rules : List Rule) →
    AllByRecursion (λ rule. is_rule_name rule.name ≡ true) rules → (entry : NamedEntry) →
    IsEntry rules entry → IsSayableEntry entry
sayable_entry rules are entry is = record {
  a = sayable_name rules half.A entry.a are is.0;
  b = sayable_name rules half.B entry.b are is.1;
  phase = omega (arith, is.2);
}

-- planes

sayable_row : (side : Side) (row : ℕ → Bool) → AreRowBytes (row_bytes (side_number side / 8) row)
sayable_row side row =
    let n = side_number side / 8 in (
      side,
      omega (arith, row_bytes-long n row, side_words side),
      row_bytes-small n row,
    )

sayable_rows : (side : Side) (rows : ℕ → ℕ → Bool) (ys : List ℕ) →
    AllByRecursion AreRowBytes (map (λ y. row_bytes (side_number side / 8) (rows y)) ys)
sayable_rows side rows [] = tt
sayable_rows side rows (y ∷ ys) = (sayable_row side (rows y), sayable_rows side rows ys)

pub sayable_plane : (side : Side) (f : Cells) (p : ℕ) →
    AllByRecursion AreRowBytes (plane_bytes (side_number side) f p)
unfolding plane_bytes
sayable_plane side f p =
    sayable_rows side (λ y x. f p x y) (range_with_len 0 (side_number side))

-- all of it

sayable_position : (cycle : List NamedEntry) (position : ℕ) → length cycle ≤ max_entries →
    IsPosition cycle position → IsWord position
sayable_position [] position short is = omega (arith, is)
sayable_position (entry ∷ cycle) position short is = omega (arith, short, is)

sayable_side : (version : Version) (m : Machine) → IsOfVersion version m →
    IsSideIn version (side_number m.side)
sayable_side First m is = is
sayable_side Second m is = omega (arith, side_most m.side)

pub sayable : (version : Version) (m : Machine) → IsMachine m → IsOfVersion version m →
    IsSayable version (saved_of m)
sayable version m is of = record {
  states = is.coloured;
  colours = all_then (λ colour. colour ≤ max_colour) IsWord (λ colour most. omega (arith, most))
      m.colours is.colours;
  cycle = all_then (IsEntry m.rules) IsSayableEntry (sayable_entry m.rules is.rules.names)
      m.cycle is.entries;
  four = refl;
  planes = (
    sayable_plane m.side m.planes 0,
    (
      sayable_plane m.side m.planes 1,
      (sayable_plane m.side m.planes 2, (sayable_plane m.side m.planes 3, tt)),
    ),
  );
  position = sayable_position m.cycle m.position is.short is.position;
  names = all_then (λ rule. is_rule_name rule.name ≡ true) (λ rule. IsUtf8 rule.name)
      (λ rule named. utf8_name rule.name named) m.rules is.rules.names;
  texts = is.rules.texts;
  side = sayable_side version m of;
}
