-- The line of every machine is within the limit of lines that load one.
use Rattle.std.proofs.Common.{◌≡◌, ◌≤◌, ℕ, Bool, true, false, List, [], ◌∷◌}
use Rattle.std.proofs.Common.{length, Option, Some, None, Result, Err, cond, refl, ap, arith}
use Rattle.std.proofs.Common.{codes, nat_lt}
use Rattle.std.specs.List.{AllByRecursion}
use Rattle.std.proofs.lemmas.Bool.{ltb-false}
use Rattle.std.proofs.lemmas.Simd.{map-map}
use Rattle.hex.specs.Hex.{encode_lower}
use Rattle.serde_json.specs.Data.{string}
use Rattle.serde_json.specs.View.{items_of}
use Rattle.cam6_planes.specs.Cells.{Cells}
use Rattle.cam6_planes.specs.Limits.{max_columns}
use Rattle.cam6_planes.specs.Side.{side_number}
use Rattle.cam6_planes.specs.declared.sides.Side.{Side}
use Rattle.cam6_planes.proofs.SideNumbers.{side_most}
use Rattle.cam6_wiring.specs.Texts.{half_text, hood_text, minor_text, grid_text}
use Rattle.cam6_wiring.specs.declared.names.Half.{Half}
use Rattle.cam6_wiring.specs.declared.names.Half.TheVariants.{A, B}
use Rattle.cam6_wiring.specs.declared.wirings.Wiring.{Wiring}
use Rattle.cam6_wiring.specs.declared.wirings.Hood.{Hood}
use Rattle.cam6_wiring.specs.declared.wirings.Hood.TheVariants.{Moore, VonNeumann, Margolus}
use Rattle.cam6_wiring.specs.declared.wirings.Hood.TheVariants.{MargolusPhase, MargolusHorzVert}
use Rattle.cam6_wiring.specs.declared.wirings.Minor.{Minor}
use Rattle.cam6_wiring.specs.declared.wirings.Minor.TheVariants.{Centers, Phases, HorzVert}
use Rattle.cam6_wiring.specs.declared.blocks.Grid.{Grid}
use Rattle.cam6_wiring.specs.declared.blocks.Grid.TheVariants.{Even, Odd}
use Rattle.cam6_forth.specs.Defined.{Defined}
use Rattle.cam6_forth.specs.Limits.{max_text}
use Rattle.cam6_forth.specs.Reading.{read_text}
use Rattle.cam6_cycle.specs.Limits.{max_entries}
use Rattle.cam6_commands.specs.Limits.{max_rules, max_name, cell_states}
use Rattle.cam6_commands.specs.Names.{is_rule_name}
use Rattle.cam6_commands.specs.declared.commands.NamedEntry.{NamedEntry}
use Rattle.cam6_commands.specs.declared.refusals.Refusal.{Refusal}
use Rattle.cam6_commands.specs.declared.saved.NamedRule.{NamedRule}
use Rattle.cam6_model.specs.Rules.{Rule}
use Rattle.cam6_model.specs.Machine.{Machine}
use Rattle.cam6_model.specs.Refusals.{words_refusal, or_then, text_refusal}
use Rattle.cam6_model.specs.Saved.{saved_of, plane_bytes}
use Rattle.cam6_model.specs.Always.{IsNamed, IsEntry, IsMachine}
use Rattle.cam6_model.proofs.SavedPlanes.{plane_bytes-long}
use Rattle.cam6_wire.specs.Limits.{max_load_line}
use Rattle.cam6_wire.specs.Numbers.{natural}
use Rattle.cam6_wire.specs.Saved.{name_text, entry_data, rule_data, rows_data, saved_data}
use Rattle.cam6_wire.specs.Saved.{version_members, load_data, load_bytes}
use Rattle.cam6_wire.specs.Laws.{AreRowBytes}
use Rattle.cam6_wire.specs.declared.saved.Version.{Version}
use Rattle.cam6_wire.specs.declared.saved.Version.TheVariants.{First, Second}
use Rattle.cam6_saved.proofs.Sayable.{all_then, short_name, name_of_entry, sayable_plane}
use Rattle.cam6_saved.proofs.Sizes.{size, items_size, members_size, text_most, string_six}
use Rattle.cam6_saved.proofs.Sizes.{decimal_most, digits_most, all_most}

-- words

half_most : (half : Half) → length (half_text half) ≤ 9
half_most A = omega arith
half_most B = omega arith

hood_most : (hood : Hood) → length (hood_text hood) ≤ 9
hood_most Moore = omega arith
hood_most VonNeumann = omega arith
hood_most Margolus = omega arith
hood_most MargolusPhase = omega arith
hood_most MargolusHorzVert = omega arith

minor_most : (minor : Minor) → length (minor_text minor) ≤ 9
minor_most Centers = omega arith
minor_most Phases = omega arith
minor_most HorzVert = omega arith

grid_most : (grid : Grid) → length (grid_text grid) ≤ 9
grid_most Even = omega arith
grid_most Odd = omega arith

-- rules

-- a text that isn't refused isn't too long
by_length : (text : List ℕ) (fault : ℕ × ℕ) (rest : Result (List Defined) (ℕ × ℕ))
    (stop : Option Refusal) (long : Bool) → nat_lt max_text (length text) ≡ long →
    or_then (text_refusal (cond long (Err fault) rest)) stop ≡ None → length text ≤ max_text
by_length text fault rest stop true is none = cc none
by_length text fault rest stop false is none = ltb-false max_text (length text) is

short_text : (wiring : Wiring) (text : List ℕ) → words_refusal wiring text ≡ None →
    length text ≤ max_text
unfolding read_text
short_text wiring text none = by_length text _ _ _ (nat_lt max_text (length text)) refl none

rule_most : (rule : NamedRule) → length rule.name ≤ max_name → length rule.text ≤ max_text →
    size (rule_data rule) ≤ 50000
rule_most rule name text =
    omega (
      arith,
      name,
      text,
      half_most rule.wiring.half,
      hood_most rule.wiring.hood,
      minor_most rule.wiring.minor,
      string_six (half_text rule.wiring.half),
      string_six (hood_text rule.wiring.hood),
      string_six (minor_text rule.wiring.minor),
      string_six rule.name,
      string_six rule.text,
    )

rules_most : (rules : List Rule) →
    AllByRecursion (λ rule. is_rule_name rule.name ≡ true) rules →
    AllByRecursion (λ rule. words_refusal rule.wiring rule.text ≡ None) rules →
    AllByRecursion (λ rule. size (rule_data rule) ≤ 50000) rules
rules_most [] names sound = tt
rules_most (rule ∷ rules) names sound = (
  rule_most rule (short_name rule.name names.0) (short_text rule.wiring rule.text sound.0),
  rules_most rules names.1 sound.1,
)

-- entries

named_most : (m : Machine) (half : Half) (o : Option (List ℕ)) → IsMachine m →
    IsNamed m.rules half o → length (name_text o) ≤ max_name
named_most m half None is named = omega arith
named_most m half (Some name) is named =
    short_name name (name_of_entry m.rules half name is.rules.names named)

entry_most : (m : Machine) → IsMachine m → (entry : NamedEntry) → IsEntry m.rules entry →
    size (entry_data entry) ≤ 1000
entry_most m is entry named =
    omega (
      arith,
      named_most m A entry.a is named.0,
      named_most m B entry.b is named.1,
      grid_most entry.grid,
      string_six (name_text entry.a),
      string_six (name_text entry.b),
      string_six (grid_text entry.grid),
      decimal_most entry.phase,
    )

-- planes

row_most : (row : List ℕ) → AreRowBytes row → size (string (encode_lower row)) ≤ 258
row_most row (side, long, bytes) = omega (arith, long, side_most side, digits_most row bytes)

rows_most : (rows : List (List ℕ)) → length rows ≤ max_columns → AllByRecursion AreRowBytes rows →
    size (rows_data rows) ≤ 132610
rows_most rows few are =
    let each = λ (row : List ℕ). string (encode_lower row) in
    let all = all_most each 258 max_columns rows few
    (all_then AreRowBytes (λ row. size (each row) ≤ 258) row_most rows are) in
    let same = ap (λ items. items_size (items_of items)) (map-map string encode_lower rows) in
    omega (arith, all, same)

plane_most : (side : Side) (f : Cells) (p : ℕ) →
    size (rows_data (plane_bytes (side_number side) f p)) ≤ 132610
plane_most side f p =
    let rows = plane_bytes (side_number side) f p in
    let few : length rows ≤ max_columns =
    omega (arith, plane_bytes-long (side_number side) f p, side_most side) in
    rows_most rows few (sayable_plane side f p)

-- all of it

numbers_most : (numbers : List ℕ) → AllByRecursion (λ n. size (natural n) ≤ 64) numbers
numbers_most [] = tt
numbers_most (n ∷ numbers) = (decimal_most n, numbers_most numbers)

version_most : (version : Version) (side : ℕ) → members_size (version_members version side) ≤ 1000
version_most First side = omega (arith, decimal_most 1)
version_most Second side = omega (arith, decimal_most side, decimal_most 2)

load_most : (version : Version) (m : Machine) → IsMachine m →
    size (load_data (saved_data version (saved_of m))) ≤ max_load_line
load_most version m is =
    let colours = all_most natural 64 cell_states m.colours (omega (arith, is.coloured))
    (numbers_most m.colours) in
    let cycle = all_most entry_data 1000 max_entries m.cycle is.short
    (all_then (IsEntry m.rules) (λ entry. size (entry_data entry) ≤ 1000) (entry_most m is) m.cycle
    is.entries) in
    let rules = all_most rule_data 50000 max_rules m.rules is.rules.few
    (rules_most m.rules is.rules.names is.rules.sound) in
    omega (
      arith,
      string_six (codes "load"),
      colours,
      cycle,
      plane_most m.side m.planes 0,
      plane_most m.side m.planes 1,
      plane_most m.side m.planes 2,
      plane_most m.side m.planes 3,
      decimal_most m.position,
      rules,
      version_most version (side_number m.side),
    )

pub line_fits : (version : Version) (m : Machine) → IsMachine m →
    length (load_bytes version (saved_of m)) ≤ max_load_line
unfolding load_bytes
line_fits version m is =
    let d = load_data (saved_data version (saved_of m)) in
    omega (arith, text_most d, load_most version m is)
