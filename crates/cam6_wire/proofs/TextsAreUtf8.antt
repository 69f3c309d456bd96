-- The texts of a value that serde_json reads of UTF-8 bytes are UTF-8.
use Rattle.std.proofs.Common.{◌≡◌, ℕ, List, true, Option, Some, None, IfSome, option_map}
use Rattle.std.proofs.Common.{option_and_then, IsUtf8, Ordering, Less, Equal, Greater}
use Rattle.std.specs.Prelude.{⊤}
use Rattle.std.specs.Ordering.{nat_cmp, match_ordering}
use Rattle.std.specs.Cmp.Lexicographic.{slice_cmp}
use Rattle.std.specs.Str.{is_utf8}
use Rattle.std.proofs.lemmas.Str.{IsUtf8-from_is_utf8}
use Rattle.json.specs.Json as json
use Rattle.json.specs.Lex.{tokens}
use Rattle.serde_json.specs.Data.{Num, Data, null, boolean, number, string, array, object, put}
use Rattle.serde_json.specs.Data.{Items, no_items, item, Members, no_members, member}
use Rattle.serde_json.specs.Find.{get, get_member, as_str}
use Rattle.serde_json.specs.Read.{number_of, of_json, of_items, of_members, max_depth, read}
use Rattle.cam6_wire.specs.Fields.{text_at}
use Rattle.cam6_wire.proofs.Steps.{of_map, of_step, of_value}
use Rattle.cam6_wire.proofs.Utf8Tokens.{tokens_are_texts}
use Rattle.cam6_wire.proofs.Utf8Values.{IsOfTexts, AreOfTexts, HaveOfTexts, document_is_of_texts}

-- each string and each key in a value is UTF-8
abbrev mutual
  pub HasTexts : Data → Type 0
  HasTexts null = ⊤
  HasTexts (boolean b) = ⊤
  HasTexts (number n) = ⊤
  HasTexts (string text) = IsUtf8 text
  HasTexts (array items) = HaveTexts items
  HasTexts (object held) = HoldTexts held

  pub HaveTexts : Items → Type 0
  HaveTexts no_items = ⊤
  HaveTexts (item d items) = HasTexts d × HaveTexts items

  pub HoldTexts : Members → Type 0
  HoldTexts no_members = ⊤
  HoldTexts (member key d held) = IsUtf8 key × HasTexts d × HoldTexts held

hold_put_by : (key next : List ℕ) (d e : Data) (held : Members) (o : Ordering) → IsUtf8 key →
    HasTexts d → HoldTexts (member next e held) → HoldTexts (put key d held) →
    HoldTexts
    (match_ordering o (member key d (member next e held)) (member next d held)
    (member next e (put key d held)))
hold_put_by key next d e held Less valid has rest more = (valid, has, rest)
hold_put_by key next d e held Equal valid has rest more = (rest.0, has, rest.2)
hold_put_by key next d e held Greater valid has rest more = (rest.0, rest.1, more)

hold_put : (key : List ℕ) (d : Data) (held : Members) → IsUtf8 key → HasTexts d →
    HoldTexts held → HoldTexts (put key d held)
hold_put key d no_members valid has rest = (valid, has, tt)
hold_put key d (member next e held) valid has rest =
    hold_put_by key next d e held (slice_cmp nat_cmp key next) valid has rest
    (hold_put key d held valid has rest.2)

a_number : (o : Option Num) → IfSome (option_map number o) HasTexts
a_number None = tt
a_number (Some n) = tt

mutual
  value_has_texts : (j : json.Json) → IsOfTexts j → IfSome (of_json j) HasTexts
  value_has_texts json.null is = tt
  value_has_texts (json.boolean b) is = tt
  value_has_texts (json.number s) is = a_number (number_of s)
  value_has_texts (json.string s) is = is
  value_has_texts (json.array js) is =
      of_map HaveTexts HasTexts array (λ items have. have) (of_items js) (items_have_texts js is)
  value_has_texts (json.object ms) is =
      of_map HoldTexts HasTexts object (λ held hold. hold) (of_members ms no_members)
      (members_hold_texts ms no_members is tt)

  items_have_texts : (js : json.Items) → AreOfTexts js → IfSome (of_items js) HaveTexts
  items_have_texts json.no_items are = tt
  items_have_texts (json.item j js) are =
      of_step HasTexts HaveTexts (λ d. option_map (item d) (of_items js))
      (λ d has. of_map HaveTexts HaveTexts (item d) (λ items have. (has, have)) (of_items js)
      (items_have_texts js are.1))
      (of_json j) (value_has_texts j are.0)

  members_hold_texts : (ms : json.Members) (found : Members) → HaveOfTexts ms →
      HoldTexts found → IfSome (of_members ms found) HoldTexts
  members_hold_texts json.no_members found have hold = hold
  members_hold_texts (json.member key j ms) found have hold =
      of_step HasTexts HoldTexts (λ d. of_members ms (put key d found))
      (λ d has. members_hold_texts ms (put key d found) have.2
      (hold_put key d found have.0 has hold))
      (of_json j) (value_has_texts j have.1)

-- every text and key in a value that serde_json reads of UTF-8 bytes is UTF-8
pub texts_are_utf8 : (line : List ℕ) (d : Data) → is_utf8 line ≡ true → read line ≡ Some d →
    HasTexts d
texts_are_utf8 line d valid is =
    of_value HasTexts (read line) d
    (of_step IsOfTexts HasTexts of_json value_has_texts
    (option_and_then (λ p. json.if_last p.0 p.1) (json.value max_depth (tokens line)))
    (document_is_of_texts max_depth (tokens line)
    (tokens_are_texts line (IsUtf8-from_is_utf8 line valid))))
    is

found_by : (o : Ordering) (key : List ℕ) (d : Data) (rest : Option Data) → HasTexts d →
    IfSome rest HasTexts → IfSome (match_ordering o rest (Some d) rest) HasTexts
found_by Less key d rest has later = later
found_by Equal key d rest has later = has
found_by Greater key d rest has later = later

found_in : (key : List ℕ) (held : Members) → HoldTexts held →
    IfSome (get_member key held) HasTexts
found_in key no_members hold = tt
found_in key (member next d held) hold =
    found_by (slice_cmp nat_cmp key next) key d (get_member key held) hold.1
    (found_in key held hold.2)

-- what stands at a key
pub found_at : (key : List ℕ) (d : Data) → HasTexts d → IfSome (get key d) HasTexts
found_at key null has = tt
found_at key (boolean b) has = tt
found_at key (number n) has = tt
found_at key (string text) has = tt
found_at key (array items) has = tt
found_at key (object held) has = found_in key held has

pub a_text : (d : Data) → HasTexts d → IfSome (as_str d) IsUtf8
a_text null has = tt
a_text (boolean b) has = tt
a_text (number n) has = tt
a_text (string text) has = has
a_text (array items) has = tt
a_text (object held) has = tt

-- the text at a key
pub text_at_utf8 : (key : List ℕ) (d : Data) (text : List ℕ) → HasTexts d →
    text_at key d ≡ Some text → IsUtf8 text
text_at_utf8 key d text has is =
    of_value IsUtf8 (text_at key d) text
    (of_step HasTexts IsUtf8 as_str a_text (get key d) (found_at key d has)) is
