-- What is read as a saved machine can be written as one.
use Rattle.std.proofs.Common.{◌≡◌, ◌==◌, ℕ, ◌*◌, ◌/◌, List, ◌∷◌, length, codes, Bool, true, false}
use Rattle.std.proofs.Common.{cond, bytes_eq, Option, Some, None, IfSome, Result, Ok, Err, IsUtf8}
use Rattle.std.proofs.Common.{refl, sym, ap, ◌∙◌, arith}
use Rattle.std.specs.Prelude.{⊤}
use Rattle.std.specs.List.{AllByRecursion}
use Rattle.std.specs.Result.{result_ok}
use Rattle.std.proofs.lemmas.Bool.{eqb-true}
use Rattle.std.proofs.lemmas.Option.{IfSome_then}
use Rattle.hex.specs.Hex.{decode_sized}
use Rattle.hex.specs.declared.error.FromHexError.{FromHexError}
use Rattle.hex.proofs.HexLemmas.{decode_sized-ok, decode_sized-twice, decode_of-ok}
use Rattle.serde_json.specs.Data.{Data, null, boolean, number, string, array, object}
use Rattle.serde_json.specs.Data.{unsigned, negative, float, Items, no_items, item}
use Rattle.serde_json.specs.Find.{get, as_str, as_array}
use Rattle.cam6_planes.specs.Digits.{bits_of_digits}
use Rattle.cam6_planes.specs.Side.{side_number, side_of}
use Rattle.cam6_planes.specs.declared.sides.Side.{Side}
use Rattle.cam6_planes.proofs.SideNumbers.{side_words}
use Rattle.cam6_wiring.specs.Texts.{grid_named}
use Rattle.cam6_commands.specs.Limits.{cell_states}
use Rattle.cam6_commands.specs.declared.saved.NamedRule.{NamedRule}
use Rattle.cam6_commands.specs.declared.saved.SavedMachine.{SavedMachine}
use Rattle.cam6_wire.specs.Fields.{has_size, number_in, number_at, text_at, numbers_of, of_states}
use Rattle.cam6_wire.specs.Fields.{colours_at, ◌>>=◌}
use Rattle.cam6_wire.specs.Wirings.{wiring_in}
use Rattle.cam6_wire.specs.Rules.{rule_fields}
use Rattle.cam6_wire.specs.Entries.{rule_name_in, entry_fields, entry_in, entries_in, entries_at}
use Rattle.cam6_wire.specs.Loads.{bits_in, rows_of, rows_in, planes_of, of_four, planes_at}
use Rattle.cam6_wire.specs.Loads.{rule_in, rules_in, rules_at, version_in, side_in}
use Rattle.cam6_wire.specs.Loads.{saved_fields, saved_in}
use Rattle.cam6_wire.specs.Laws.{IsWord, IsNameOrNone, IsSayableEntry, AreRowBytes, IsSideIn}
use Rattle.cam6_wire.specs.Laws.{IsSayable}
use Rattle.cam6_wire.specs.declared.saved.Version.{Version}
use Rattle.cam6_wire.specs.declared.saved.Version.TheVariants.{First, Second}
use Rattle.cam6_wire.proofs.Steps.{of_step, of_test, of_two, of_three, of_four as four_steps}
use Rattle.cam6_wire.proofs.ColourCount.{whatever}
use Rattle.cam6_wire.proofs.ShownEntries.{made_entry}
use Rattle.cam6_wire.proofs.Showing.{made_rule}
use Rattle.cam6_wire.proofs.TextsAreUtf8.{HasTexts, HaveTexts, found_at, a_text}
use Rattle.cam6_wire.proofs.WordsRead.{HasWords, HaveWords, words_at}
use Rattle.cam6_wire.proofs.SavedBack.{made}

-- what is known of a value that was read
abbrev pub IsRead : Data → Type 0
IsRead d = HasTexts d × HasWords d

abbrev AreRead : Items → Type 0
AreRead items = HaveTexts items × HaveWords items

both : {A : Type 0} (P Q : A → Type 0) (o : Option A) → IfSome o P → IfSome o Q →
    IfSome o (λ a. P a × Q a)
both P Q None one other = tt
both P Q (Some a) one other = (one, other)

read_at : (key : List ℕ) (d : Data) → IsRead d → IfSome (get key d) IsRead
read_at key d read =
    both HasTexts HasWords (get key d) (found_at key d read.0) (words_at key d read.1)

items_read : (d : Data) → IsRead d → IfSome (as_array d) AreRead
items_read null read = tt
items_read (boolean b) read = tt
items_read (number n) read = tt
items_read (string text) read = tt
items_read (array items) read = read
items_read (object held) read = tt

-- what holds of the items at a key
of_items : {A : Type 0} (P : A → Type 0) (f : Items → Option A) →
    ((items : Items) → AreRead items → IfSome (f items) P) → (key : List ℕ) (d : Data) →
    IsRead d → IfSome (get key d >>= λ found. as_array found >>= λ items. f items) P
of_items P f holds key d read =
    of_step IsRead P (λ found. as_array found >>= λ items. f items)
    (λ found is. of_step AreRead P (λ items. f items) holds (as_array found) (items_read found is))
    (get key d) (read_at key d read)

word_in : (d : Data) → HasWords d → IfSome (number_in d) IsWord
word_in null has = tt
word_in (boolean b) has = tt
word_in (number (unsigned n)) has = has
word_in (number (negative z)) has = tt
word_in (number (float x)) has = tt
word_in (string text) has = tt
word_in (array items) has = tt
word_in (object held) has = tt

word_read : (key : List ℕ) (d : Data) → IsRead d → IfSome (number_at key d) IsWord
word_read key d read =
    of_step IsRead IsWord number_in (λ found is. word_in found is.1) (get key d)
    (read_at key d read)

text_read : (key : List ℕ) (d : Data) → IsRead d → IfSome (text_at key d) IsUtf8
text_read key d read =
    of_step IsRead IsUtf8 as_str (λ found is. a_text found is.0) (get key d) (read_at key d read)

-- colours

words_in : (items : Items) → HaveWords items → IfSome (numbers_of items) (AllByRecursion IsWord)
words_in no_items have = tt
words_in (item d items) have =
    of_two IsWord (AllByRecursion IsWord) (AllByRecursion IsWord) (λ n numbers. n ∷ numbers)
    (λ n numbers word words. (word, words)) (number_in d) (numbers_of items) (word_in d have.0)
    (words_in items have.1)

abbrev AreColours : List ℕ → Type 0
AreColours colours = (length colours ≡ cell_states) × AllByRecursion IsWord colours

colours_read : (d : Data) → IsRead d → IfSome (colours_at (codes "colours") d) AreColours
colours_read d read =
    of_items AreColours (λ items. numbers_of items >>= λ numbers. of_states numbers)
    (λ items are.
    of_step (AllByRecursion IsWord) AreColours (λ numbers. of_states numbers)
    (λ numbers words.
    of_test AreColours (length numbers == cell_states) (Some numbers) None
    (λ is. (eqb-true (length numbers) cell_states is, words)) tt)
    (numbers_of items) (words_in items are.1))
    (codes "colours") d read

-- entries

name_read : (text : List ℕ) → IsUtf8 text → IsNameOrNone (rule_name_in text)
name_read text valid = by_test (bytes_eq text (codes "-")) refl
  where
    by_test : (b : Bool) → bytes_eq text (codes "-") ≡ b →
        IsNameOrNone (cond b None (Some text))
    by_test true is = tt
    by_test false is = (valid, ap (λ b. cond b None (Some text)) is)

entry_read : (d : Data) → IsRead d → IfSome (entry_in d) IsSayableEntry
unfolding entry_in
entry_read d read =
    of_test IsSayableEntry (has_size 4 d) (entry_fields d) None
    (λ four.
    four_steps IsUtf8 IsUtf8 (λ grid. ⊤) IsWord IsSayableEntry made_entry
    (λ a b grid phase valid_a valid_b of_grid word. record {
      a = name_read a valid_a;
      b = name_read b valid_b;
      phase = word;
    })
    (text_at (codes "a") d) (text_at (codes "b") d)
    (text_at (codes "grid") d >>= grid_named) (number_at (codes "phase") d)
    (text_read (codes "a") d read) (text_read (codes "b") d read)
    (whatever (text_at (codes "grid") d >>= grid_named)) (word_read (codes "phase") d read))
    tt

entries_read : (items : Items) → AreRead items →
    IfSome (entries_in items) (AllByRecursion IsSayableEntry)
entries_read no_items are = tt
entries_read (item d items) are =
    of_two IsSayableEntry (AllByRecursion IsSayableEntry) (AllByRecursion IsSayableEntry)
    (λ entry entries. entry ∷ entries) (λ entry entries is are. (is, are)) (entry_in d)
    (entries_in items) (entry_read d (are.0.0, are.1.0))
    (entries_read items (are.0.1, are.1.1))

cycle_read : (d : Data) → IsRead d →
    IfSome (entries_at (codes "cycle") d) (AllByRecursion IsSayableEntry)
cycle_read d read =
    of_items (AllByRecursion IsSayableEntry) entries_in entries_read (codes "cycle") d read

-- planes

row_is : (side : Side) (digits bits : List ℕ) →
    decode_sized digits (side_number side / 8) ≡ Ok bits → AreRowBytes bits
row_is side digits bits is =
    let twice = decode_sized-ok digits (side_number side / 8) bits is in
    let pairs =
    decode_of-ok digits bits
    (sym (decode_sized-twice digits (side_number side / 8) twice) ∙ is) in
    (side, omega (arith, twice, pairs.2, side_words side), pairs.3)

bits_read : (digits : List ℕ) → IfSome (bits_of_digits digits) AreRowBytes
bits_read digits =
    of_step (λ side. ⊤) AreRowBytes
    (λ side. result_ok (decode_sized digits (side_number side / 8)))
    (λ side given. by_result side (decode_sized digits (side_number side / 8)) refl)
    (side_of (4 * length digits)) (whatever (side_of (4 * length digits)))
  where
    by_result : (side : Side) (r : Result (List ℕ) FromHexError) →
        decode_sized digits (side_number side / 8) ≡ r → IfSome (result_ok r) AreRowBytes
    by_result side (Ok bits) is = row_is side digits bits is
    by_result side (Err fault) is = tt

row_read : (d : Data) → IfSome (bits_in d) AreRowBytes
row_read d =
    of_step (λ text. ⊤) AreRowBytes bits_of_digits (λ text given. bits_read text) (as_str d)
    (whatever (as_str d))

abbrev AreRows : List (List ℕ) → Type 0
AreRows rows = AllByRecursion AreRowBytes rows

rows_read : (items : Items) → IfSome (rows_of items) AreRows
rows_read no_items = tt
rows_read (item d items) =
    of_two AreRowBytes AreRows AreRows (λ row rows. row ∷ rows)
    (λ row rows is are. (is, are)) (bits_in d) (rows_of items) (row_read d) (rows_read items)

plane_read : (d : Data) → IfSome (rows_in d) AreRows
plane_read d =
    of_step (λ items. ⊤) AreRows rows_of (λ items given. rows_read items) (as_array d)
    (whatever (as_array d))

planes_read : (items : Items) → IfSome (planes_of items) (AllByRecursion AreRows)
planes_read no_items = tt
planes_read (item d items) =
    of_two AreRows (AllByRecursion AreRows) (AllByRecursion AreRows)
    (λ rows planes. rows ∷ planes) (λ rows planes is are. (is, are)) (rows_in d)
    (planes_of items) (plane_read d) (planes_read items)

abbrev AreFour : List (List (List ℕ)) → Type 0
AreFour planes = (length planes ≡ 4) × AllByRecursion AreRows planes

four_read : (d : Data) → IsRead d → IfSome (planes_at (codes "planes") d) AreFour
four_read d read =
    of_items AreFour (λ items. planes_of items >>= λ planes. of_four planes)
    (λ items are.
    of_step (AllByRecursion AreRows) AreFour (λ planes. of_four planes)
    (λ planes rows.
    of_test AreFour (length planes == 4) (Some planes) None
    (λ is. (eqb-true (length planes) 4 is, rows)) tt)
    (planes_of items) (planes_read items))
    (codes "planes") d read

-- rules

abbrev IsRule : NamedRule → Type 0
IsRule rule = IsUtf8 rule.name × IsUtf8 rule.text

rule_read : (d : Data) → IsRead d → IfSome (rule_in d) IsRule
unfolding rule_in
rule_read d read =
    of_test IsRule (has_size 5 d) (rule_fields d) None
    (λ five.
    of_three IsUtf8 (λ wiring. ⊤) IsUtf8 IsRule made_rule
    (λ name wiring text valid_name given valid_text. (valid_name, valid_text))
    (text_at (codes "name") d) (wiring_in d) (text_at (codes "text") d)
    (text_read (codes "name") d read) (whatever (wiring_in d)) (text_read (codes "text") d read))
    tt

abbrev AreRules : List NamedRule → Type 0
AreRules rules =
    AllByRecursion (λ rule. IsUtf8 rule.name) rules
    × AllByRecursion (λ rule. IsUtf8 rule.text) rules

rules_read : (items : Items) → AreRead items → IfSome (rules_in items) AreRules
rules_read no_items are = (tt, tt)
rules_read (item d items) are =
    of_two IsRule AreRules AreRules (λ rule rules. rule ∷ rules)
    (λ rule rules is are. ((is.0, are.0), (is.1, are.1))) (rule_in d) (rules_in items)
    (rule_read d (are.0.0, are.1.0)) (rules_read items (are.0.1, are.1.1))

named_read : (d : Data) → IsRead d → IfSome (rules_at (codes "rules") d) AreRules
named_read d read = of_items AreRules rules_in rules_read (codes "rules") d read

-- all of it

side_read : (version : Version) (d : Data) → IsRead d →
    IfSome (side_in version d) (IsSideIn version)
side_read First d read =
    of_test (IsSideIn First) (has_size 6 d) (Some 256) None (λ six. refl) tt
side_read Second d read =
    of_test (IsSideIn Second) (has_size 7 d) (number_at (codes "side") d) None
    (λ seven. word_read (codes "side") d read) tt

-- five steps that don't wait for one another
five_steps : {A B C D E F : Type 0} (P : A → Type 0) (Q : B → Type 0) (R : C → Type 0)
    (S : D → Type 0) (T : E → Type 0) (U : F → Type 0) (make : A → B → C → D → E → F) →
    ((a : A) (b : B) (c : C) (d : D) (e : E) → P a → Q b → R c → S d → T e → U (make a b c d e)) →
    (v : Option A) (w : Option B) (x : Option C) (y : Option D) (z : Option E) →
    IfSome v P → IfSome w Q → IfSome x R → IfSome y S → IfSome z T →
    IfSome (v >>= λ a. w >>= λ b. x >>= λ c. y >>= λ d. z >>= λ e. Some (make a b c d e)) U
five_steps P Q R S T U make holds None w x y z p q r s t = tt
five_steps P Q R S T U make holds (Some a) None x y z p q r s t = tt
five_steps P Q R S T U make holds (Some a) (Some b) None y z p q r s t = tt
five_steps P Q R S T U make holds (Some a) (Some b) (Some c) None z p q r s t = tt
five_steps P Q R S T U make holds (Some a) (Some b) (Some c) (Some d) None p q r s t = tt
five_steps P Q R S T U make holds (Some a) (Some b) (Some c) (Some d) (Some e) p q r s t =
    holds a b c d e p q r s t

fields_read : (version : Version) (side : ℕ) (d : Data) → IsSideIn version side → IsRead d →
    IfSome (saved_fields side d) (λ saved. IsSayable version saved)
fields_read version side d is read =
    five_steps AreColours (AllByRecursion IsSayableEntry) AreFour IsWord AreRules
    (λ saved. IsSayable version saved) (made side)
    (λ colours cycle planes position rules of_colours of_cycle of_planes word of_rules. record {
      states = of_colours.0;
      colours = of_colours.1;
      cycle = of_cycle;
      four = of_planes.0;
      planes = of_planes.1;
      position = word;
      names = of_rules.0;
      texts = of_rules.1;
      side = is;
    })
    (colours_at (codes "colours") d) (entries_at (codes "cycle") d)
    (planes_at (codes "planes") d) (number_at (codes "position") d) (rules_at (codes "rules") d)
    (colours_read d read) (cycle_read d read) (four_read d read)
    (word_read (codes "position") d read) (named_read d read)

-- a saved machine that can be said in the version of a value
abbrev pub IsSayableIn : Data → SavedMachine → Type 0
IsSayableIn d saved =
    (version : Version) × (version_in d ≡ Some version) × IsSayable version saved

pub saved_read : (d : Data) → IsRead d → IfSome (saved_in d) (IsSayableIn d)
unfolding saved_in
saved_read d read = by_version (version_in d) refl
  where
    by_version : (o : Option Version) → version_in d ≡ o →
        IfSome (o >>= λ version. side_in version d >>= λ side. saved_fields side d) (IsSayableIn d)
    by_version None is = tt
    by_version (Some version) is =
        of_step (IsSideIn version) (IsSayableIn d) (λ side. saved_fields side d)
        (λ side of_side.
        IfSome_then (saved_fields side d) (fields_read version side d of_side read)
        (λ saved sayable. (version, is, sayable)))
        (side_in version d) (side_read version d read)
