-- The whole numbers of a value that serde_json reads have 64 bits.
use Rattle.std.proofs.Common.{◌≡◌, ◌^◌, ◌==◌, ◌&&◌, ℕ, pos, List, Bool, true, false, nat_lt}
use Rattle.std.proofs.Common.{nat_le, drop}
use Rattle.std.proofs.Common.{Option, Some, None, IfSome, option_map, option_and_then}
use Rattle.std.proofs.Common.{Ordering, Less, Equal, Greater}
use Rattle.std.specs.Prelude.{⊤, neg_ℤ, slice_index}
use Rattle.std.specs.Float.{binary64, float_is_finite}
use Rattle.std.specs.Float.Numeral.{minus, Parts, scan_numeral, numeral_digits, nearest_float}
use Rattle.std.specs.Ordering.{nat_cmp, match_ordering}
use Rattle.std.specs.Cmp.Lexicographic.{slice_cmp}
use Rattle.std.proofs.lemmas.Bool.{and_parts, ltb-true}
use Rattle.json.specs.Json as json
use Rattle.json.specs.Lex.{tokens}
use Rattle.serde_json.specs.Data.{Num, unsigned, negative, float, Data, null, boolean, number}
use Rattle.serde_json.specs.Data.{string, array, object, put}
use Rattle.serde_json.specs.Data.{Items, no_items, item, Members, no_members, member}
use Rattle.serde_json.specs.Find.{get, get_member}
use Rattle.serde_json.specs.Read.{is_integer, float_of, number_from, number_of, of_json, of_items}
use Rattle.serde_json.specs.Read.{of_members, max_depth, read}
use Rattle.cam6_wire.specs.Laws.{IsWord}
use Rattle.cam6_wire.proofs.Steps.{of_map, of_step, of_test, of_value}

-- a whole number, if it is one, of 64 bits
abbrev pub IsShort : Num → Type 0
IsShort (unsigned n) = IsWord n
IsShort (negative z) = ⊤
IsShort (float x) = ⊤

-- each number in a value is short
abbrev mutual
  pub HasWords : Data → Type 0
  HasWords null = ⊤
  HasWords (boolean b) = ⊤
  HasWords (number n) = IsShort n
  HasWords (string text) = ⊤
  HasWords (array items) = HaveWords items
  HasWords (object held) = HoldWords held

  pub HaveWords : Items → Type 0
  HaveWords no_items = ⊤
  HaveWords (item d items) = HasWords d × HaveWords items

  pub HoldWords : Members → Type 0
  HoldWords no_members = ⊤
  HoldWords (member key d held) = HasWords d × HoldWords held

a_float : (sign : Bool) (p : Parts) → IfSome (float_of sign p) IsShort
a_float sign p =
    of_test IsShort (float_is_finite (nearest_float binary64 sign p))
    (Some (float (nearest_float binary64 sign p))) None (λ is. tt) tt

short_from : (sign : Bool) (p : Parts) → IfSome (number_from sign p) IsShort
short_from false p =
    let n = numeral_digits p in
    of_test IsShort (is_integer p && nat_lt n (2 ^ 64)) (Some (unsigned n)) (float_of false p)
    (λ is. ltb-true n (2 ^ 64) (and_parts (is_integer p) (nat_lt n (2 ^ 64)) is).1)
    (a_float false p)
short_from true p =
    let n = numeral_digits p in
    of_test IsShort (is_integer p && nat_lt 0 n && nat_le n (2 ^ 63))
    (Some (negative (neg_ℤ (pos n)))) (float_of true p) (λ is. tt) (a_float true p)

short_number : (s : List ℕ) → IfSome (number_of s) IsShort
unfolding number_of
short_number s =
    of_test IsShort (slice_index s 0 == minus) (number_from true (scan_numeral (drop 1 s)))
    (number_from false (scan_numeral s)) (λ is. short_from true (scan_numeral (drop 1 s)))
    (short_from false (scan_numeral s))

hold_put_by : (key next : List ℕ) (d e : Data) (held : Members) (o : Ordering) →
    HasWords d → HoldWords (member next e held) → HoldWords (put key d held) →
    HoldWords
    (match_ordering o (member key d (member next e held)) (member next d held)
    (member next e (put key d held)))
hold_put_by key next d e held Less has rest more = (has, rest)
hold_put_by key next d e held Equal has rest more = (has, rest.1)
hold_put_by key next d e held Greater has rest more = (rest.0, more)

hold_put : (key : List ℕ) (d : Data) (held : Members) → HasWords d → HoldWords held →
    HoldWords (put key d held)
hold_put key d no_members has rest = (has, tt)
hold_put key d (member next e held) has rest =
    hold_put_by key next d e held (slice_cmp nat_cmp key next) has rest
    (hold_put key d held has rest.1)

mutual
  value_has_words : (j : json.Json) → IfSome (of_json j) HasWords
  value_has_words json.null = tt
  value_has_words (json.boolean b) = tt
  value_has_words (json.number s) =
      of_map IsShort HasWords number (λ n is. is) (number_of s) (short_number s)
  value_has_words (json.string s) = tt
  value_has_words (json.array js) =
      of_map HaveWords HasWords array (λ items have. have) (of_items js) (items_have_words js)
  value_has_words (json.object ms) =
      of_map HoldWords HasWords object (λ held hold. hold) (of_members ms no_members)
      (members_hold_words ms no_members tt)

  items_have_words : (js : json.Items) → IfSome (of_items js) HaveWords
  items_have_words json.no_items = tt
  items_have_words (json.item j js) =
      of_step HasWords HaveWords (λ d. option_map (item d) (of_items js))
      (λ d has. of_map HaveWords HaveWords (item d) (λ items have. (has, have)) (of_items js)
      (items_have_words js))
      (of_json j) (value_has_words j)

  members_hold_words : (ms : json.Members) (found : Members) → HoldWords found →
      IfSome (of_members ms found) HoldWords
  members_hold_words json.no_members found hold = hold
  members_hold_words (json.member key j ms) found hold =
      of_step HasWords HoldWords (λ d. of_members ms (put key d found))
      (λ d has. members_hold_words ms (put key d found) (hold_put key d found has hold))
      (of_json j) (value_has_words j)

words_if_read : (o : Option json.Json) → IfSome (option_and_then of_json o) HasWords
words_if_read None = tt
words_if_read (Some j) = value_has_words j

-- every whole number in a value that serde_json reads has 64 bits
pub words_are_read : (line : List ℕ) (d : Data) → read line ≡ Some d → HasWords d
words_are_read line d is =
    of_value HasWords (read line) d
    (words_if_read
    (option_and_then (λ p. json.if_last p.0 p.1) (json.value max_depth (tokens line))))
    is

found_by : (o : Ordering) (d : Data) (rest : Option Data) → HasWords d →
    IfSome rest HasWords → IfSome (match_ordering o rest (Some d) rest) HasWords
found_by Less d rest has later = later
found_by Equal d rest has later = has
found_by Greater d rest has later = later

found_in : (key : List ℕ) (held : Members) → HoldWords held →
    IfSome (get_member key held) HasWords
found_in key no_members hold = tt
found_in key (member next d held) hold =
    found_by (slice_cmp nat_cmp key next) d (get_member key held) hold.0
    (found_in key held hold.1)

-- what stands at a key
pub words_at : (key : List ℕ) (d : Data) → HasWords d → IfSome (get key d) HasWords
words_at key null has = tt
words_at key (boolean b) has = tt
words_at key (number n) has = tt
words_at key (string text) has = tt
words_at key (array items) has = tt
words_at key (object held) has = found_in key held has
