-- The value of a machine that can be saved has whole numbers, keys in order, and texts in UTF-8.
use Rattle.std.proofs.Common.{◌≡◌, ℕ, List, [], ◌∷◌, map, true, codes, Option, Some, None, IsUtf8}
use Rattle.std.proofs.Common.{refl, arith}
use Rattle.std.specs.List.{AllByRecursion}
use Rattle.std.proofs.lemmas.Str.{IsUtf8-from_ascii}
use Rattle.hex.specs.Hex.{encode_lower, lower_digits}
use Rattle.hex.proofs.HexLemmas.{IsAscii-encode_with}
use Rattle.json.proofs.Printed.Utf8.{are_ascii, IsUtf8-are_ascii}
use Rattle.serde_json.specs.Data.{Data, string, array, object, Members, member}
use Rattle.serde_json.specs.View.{items_of}
use Rattle.cam6_planes.proofs.AsciiTexts.{digits-ascii}
use Rattle.cam6_wiring.specs.Texts.{half_text, hood_text, minor_text, grid_text}
use Rattle.cam6_wiring.specs.declared.names.Half.{Half}
use Rattle.cam6_wiring.specs.declared.names.Half.TheVariants.{A, B}
use Rattle.cam6_wiring.specs.declared.wirings.Hood.{Hood}
use Rattle.cam6_wiring.specs.declared.wirings.Hood.TheVariants.{Moore, VonNeumann, Margolus}
use Rattle.cam6_wiring.specs.declared.wirings.Hood.TheVariants.{MargolusPhase, MargolusHorzVert}
use Rattle.cam6_wiring.specs.declared.wirings.Minor.{Minor}
use Rattle.cam6_wiring.specs.declared.wirings.Minor.TheVariants.{Centers, Phases, HorzVert}
use Rattle.cam6_wiring.specs.declared.blocks.Grid.{Grid}
use Rattle.cam6_wiring.specs.declared.blocks.Grid.TheVariants.{Even, Odd}
use Rattle.cam6_commands.specs.declared.commands.NamedEntry.{NamedEntry}
use Rattle.cam6_commands.specs.declared.saved.NamedRule.{NamedRule}
use Rattle.cam6_commands.specs.declared.saved.SavedMachine.{SavedMachine}
use Rattle.cam6_wire.specs.Numbers.{natural, naturals}
use Rattle.cam6_wire.specs.Saved.{name_text, entry_data, rule_data, rows_data, version_members}
use Rattle.cam6_wire.specs.Saved.{saved_data, load_data}
use Rattle.cam6_wire.specs.Laws.{IsWord, IsNameOrNone, IsSayableEntry, IsSayable}
use Rattle.cam6_wire.specs.declared.saved.Version.{Version}
use Rattle.cam6_wire.specs.declared.saved.Version.TheVariants.{First, Second}
use Rattle.cam6_wire.proofs.Ordered.{IsBefore}
use Rattle.cam6_wire.proofs.ReadBack.{IsWholeData, AreWhole, HaveWhole}
use Rattle.cam6_wire.proofs.TextsAreUtf8.{HasTexts, HaveTexts, HoldTexts}

-- a list of values, each of which is one of whole numbers
whole_items : {A : Type 0} (f : A → Data) (P : A → Type 0) → ((x : A) → P x → IsWholeData (f x)) →
    (xs : List A) → AllByRecursion P xs → AreWhole (items_of (map f xs))
whole_items f P each [] are = tt
whole_items f P each (x ∷ xs) are = (each x are.0, whole_items f P each xs are.1)

whole_all : {A : Type 0} (f : A → Data) → ((x : A) → IsWholeData (f x)) → (xs : List A) →
    AreWhole (items_of (map f xs))
whole_all f each [] = tt
whole_all f each (x ∷ xs) = (each x, whole_all f each xs)

-- and each of which has its texts in UTF-8
texts_items : {A : Type 0} (f : A → Data) (P : A → Type 0) → ((x : A) → P x → HasTexts (f x)) →
    (xs : List A) → AllByRecursion P xs → HaveTexts (items_of (map f xs))
texts_items f P each [] are = tt
texts_items f P each (x ∷ xs) are = (each x are.0, texts_items f P each xs are.1)

texts_all : {A : Type 0} (f : A → Data) → ((x : A) → HasTexts (f x)) → (xs : List A) →
    HaveTexts (items_of (map f xs))
texts_all f each [] = tt
texts_all f each (x ∷ xs) = (each x, texts_all f each xs)

whole_entry : (entry : NamedEntry) → IsSayableEntry entry → IsWholeData (entry_data entry)
whole_entry entry is = (
  tt,
  (refl, (refl, (refl, tt))),
  (tt, (refl, (refl, tt)), (tt, (refl, tt), (is.phase, tt, tt))),
)

whole_rule : (rule : NamedRule) → IsWholeData (rule_data rule)
whole_rule rule = (
  tt,
  (refl, (refl, (refl, (refl, tt)))),
  (
    tt,
    (refl, (refl, (refl, tt))),
    (tt, (refl, (refl, tt)), (tt, (refl, tt), (tt, tt, tt))),
  ),
)

whole_rows : (rows : List (List ℕ)) → IsWholeData (rows_data rows)
whole_rows rows = whole_all string (λ digits. tt) (map encode_lower rows)

-- members before which the keys of both versions stand
abbrev ComeLast : Members → Type 0
ComeLast more =
    IsBefore (codes "colours") more × IsBefore (codes "cycle") more
    × IsBefore (codes "planes") more × IsBefore (codes "position") more
    × IsBefore (codes "rules") more

whole_with : (version : Version) (saved : SavedMachine) (more : Members) →
    IsSayable version saved → ComeLast more → HaveWhole more →
    IsWholeData
    (object
    (member (codes "colours") (array (naturals saved.colours))
    (member (codes "cycle") (array (items_of (map entry_data saved.cycle)))
    (member (codes "planes") (array (items_of (map rows_data saved.planes)))
    (member (codes "position") (natural saved.position)
    (member (codes "rules") (array (items_of (map rule_data saved.rules))) more))))))
whole_with version saved more is last whole = (
  whole_items natural IsWord (λ n word. word) saved.colours is.colours,
  (refl, (refl, (refl, (refl, last.0)))),
  (
    whole_items entry_data IsSayableEntry whole_entry saved.cycle is.cycle,
    (refl, (refl, (refl, last.1))),
    (
      whole_all rows_data whole_rows saved.planes,
      (refl, (refl, last.2)),
      (
        is.position,
        (refl, last.3),
        (whole_all rule_data whole_rule saved.rules, last.4, whole),
      ),
    ),
  ),
)

pub whole_saved : (version : Version) (saved : SavedMachine) → IsSayable version saved →
    IsWholeData (saved_data version saved)
whole_saved First saved is =
    whole_with First saved (version_members First saved.side) is
    ((refl, tt), (refl, tt), (refl, tt), (refl, tt), (refl, tt)) (omega arith, tt, tt)
whole_saved Second saved is =
    whole_with Second saved (version_members Second saved.side) is (
      (refl, (refl, tt)),
      (refl, (refl, tt)),
      (refl, (refl, tt)),
      (refl, (refl, tt)),
      (refl, (refl, tt)),
    )
    (is.side, (refl, tt), (omega arith, tt, tt))

pub whole_load : (version : Version) (saved : SavedMachine) → IsSayable version saved →
    IsWholeData (load_data (saved_data version saved))
whole_load version saved is = (tt, (refl, tt), (whole_saved version saved is, tt, tt))

-- texts

ascii : (text : List ℕ) → are_ascii text ≡ true → IsUtf8 text
ascii text is = IsUtf8-are_ascii text is

half_utf8 : (half : Half) → IsUtf8 (half_text half)
half_utf8 A = ascii _ refl
half_utf8 B = ascii _ refl

hood_utf8 : (hood : Hood) → IsUtf8 (hood_text hood)
hood_utf8 Moore = ascii _ refl
hood_utf8 VonNeumann = ascii _ refl
hood_utf8 Margolus = ascii _ refl
hood_utf8 MargolusPhase = ascii _ refl
hood_utf8 MargolusHorzVert = ascii _ refl

minor_utf8 : (minor : Minor) → IsUtf8 (minor_text minor)
minor_utf8 Centers = ascii _ refl
minor_utf8 Phases = ascii _ refl
minor_utf8 HorzVert = ascii _ refl

grid_utf8 : (grid : Grid) → IsUtf8 (grid_text grid)
grid_utf8 Even = ascii _ refl
grid_utf8 Odd = ascii _ refl

name_utf8 : (o : Option (List ℕ)) → IsNameOrNone o → IsUtf8 (name_text o)
name_utf8 None is = ascii (codes "-") refl
name_utf8 (Some name) is = is.0

entry_texts : (entry : NamedEntry) → IsSayableEntry entry → HasTexts (entry_data entry)
entry_texts entry is = (
  ascii (codes "a") refl,
  name_utf8 entry.a is.a,
  (
    ascii (codes "b") refl,
    name_utf8 entry.b is.b,
    (
      ascii (codes "grid") refl,
      grid_utf8 entry.grid,
      (ascii (codes "phase") refl, tt, tt),
    ),
  ),
)

rule_texts : (rule : NamedRule) → IsUtf8 rule.name → IsUtf8 rule.text → HasTexts (rule_data rule)
rule_texts rule name text = (
  ascii (codes "half") refl,
  half_utf8 rule.wiring.half,
  (
    ascii (codes "hood") refl,
    hood_utf8 rule.wiring.hood,
    (
      ascii (codes "minor") refl,
      minor_utf8 rule.wiring.minor,
      (ascii (codes "name") refl, name, (ascii (codes "text") refl, text, tt)),
    ),
  ),
)

rules_texts : (rules : List NamedRule) → AllByRecursion (λ rule. IsUtf8 rule.name) rules →
    AllByRecursion (λ rule. IsUtf8 rule.text) rules → HaveTexts (items_of (map rule_data rules))
rules_texts [] names texts = tt
rules_texts (rule ∷ rules) names texts =
    (rule_texts rule names.0 texts.0, rules_texts rules names.1 texts.1)

digits_utf8 : (row : List ℕ) → IsUtf8 (encode_lower row)
digits_utf8 row =
    IsUtf8-from_ascii (encode_lower row) (IsAscii-encode_with lower_digits row digits-ascii)

row_texts : (rows : List (List ℕ)) → HasTexts (rows_data rows)
row_texts [] = tt
row_texts (row ∷ rows) = (digits_utf8 row, row_texts rows)

version_texts : (version : Version) (side : ℕ) → HoldTexts (version_members version side)
version_texts First side = (ascii (codes "version") refl, tt, tt)
version_texts Second side =
    (ascii (codes "side") refl, tt, (ascii (codes "version") refl, tt, tt))

saved_texts : (version : Version) (saved : SavedMachine) → IsSayable version saved →
    HasTexts (saved_data version saved)
saved_texts version saved is = (
  ascii (codes "colours") refl,
  texts_all natural (λ n. tt) saved.colours,
  (
    ascii (codes "cycle") refl,
    texts_items entry_data IsSayableEntry entry_texts saved.cycle is.cycle,
    (
      ascii (codes "planes") refl,
      texts_all rows_data row_texts saved.planes,
      (
        ascii (codes "position") refl,
        tt,
        (
          ascii (codes "rules") refl,
          rules_texts saved.rules is.names is.texts,
          version_texts version saved.side,
        ),
      ),
    ),
  ),
)

pub load_texts : (version : Version) (saved : SavedMachine) → IsSayable version saved →
    HasTexts (load_data (saved_data version saved))
load_texts version saved is = (
  ascii (codes "do") refl,
  ascii (codes "load") refl,
  (ascii (codes "machine") refl, saved_texts version saved is, tt),
)
