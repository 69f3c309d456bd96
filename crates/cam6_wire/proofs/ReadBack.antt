-- The compact text of a value of whole numbers, whose keys are in order, is read back as the value.
use Rattle.std.proofs.Common.{◌≡◌, ℕ, ◌<◌, ◌≤◌, ◌^◌, List, [], Option, Some, suc, max}
use Rattle.std.proofs.Common.{option_map, option_and_then, Less}
use Rattle.std.proofs.Common.{refl, sym, ap, ◌∙◌, arith, append-nil}
use Rattle.std.specs.Prelude.{⊤}
use Rattle.std.specs.Ordering.{nat_cmp, match_ordering}
use Rattle.std.specs.Cmp.Lexicographic.{slice_cmp}
use Rattle.json.specs.Lex.{tokens}
use Rattle.json.specs.Print.{print}
use Rattle.json.specs.Json as json
use Rattle.json.specs.Tree as tree
use Rattle.json.proofs.Printed.Tokens.{tokens-print}
use Rattle.json.proofs.Printed.Trees.{value-json_tokens, ArePrintable-json_tokens}
use Rattle.json.proofs.Printed.Decimals.{IsNumber-decimal}
use Rattle.serde_json.specs.Data.{Num, unsigned, negative, float, Data, null, boolean, number}
use Rattle.serde_json.specs.Data.{string, array, object, Items, no_items, item, Members}
use Rattle.serde_json.specs.Data.{no_members, member, put, depth, items_depth, members_depth}
use Rattle.serde_json.specs.Read.{read, max_depth, number_of, of_json, of_items, of_members}
use Rattle.serde_json.specs.Written.{compact_text, number_text, outline, items_outline}
use Rattle.serde_json.specs.Written.{members_outline}
use Rattle.serde_json.proofs.Numbers.{number_of-decimal}
use Rattle.serde_json.proofs.Texts.{print-outline}
use Rattle.cam6_wire.proofs.Ordered.{IsBefore, turned}

-- a whole number of 64 bits
abbrev pub IsWhole : Num → Type 0
IsWhole (unsigned n) = n < 2 ^ 64
IsWhole (negative z) = ⊥
IsWhole (float x) = ⊥

-- all numbers are whole, and the keys of each object are in order, each once
abbrev mutual
  pub IsWholeData : Data → Type 0
  IsWholeData null = ⊤
  IsWholeData (boolean b) = ⊤
  IsWholeData (number n) = IsWhole n
  IsWholeData (string s) = ⊤
  IsWholeData (array items) = AreWhole items
  IsWholeData (object held) = HaveWhole held

  pub AreWhole : Items → Type 0
  AreWhole no_items = ⊤
  AreWhole (item d items) = IsWholeData d × AreWhole items

  pub HaveWhole : Members → Type 0
  HaveWhole no_members = ⊤
  HaveWhole (member key d held) = IsWholeData d × IsBefore key held × HaveWhole held

-- numbers

number_back : (n : Num) → IsWhole n → number_of (number_text n) ≡ Some n
number_back (unsigned n) whole = number_of-decimal n whole
number_back (negative z) whole = absurd whole
number_back (float x) whole = absurd whole

number_is : (n : Num) → IsWhole n → tree.HasNumbers (json.number (number_text n))
number_is (unsigned n) whole = IsNumber-decimal n whole
number_is (negative z) whole = absurd whole
number_is (float x) whole = absurd whole

mutual
  numbers_are : (d : Data) → IsWholeData d → tree.HasNumbers (outline d)
  numbers_are null whole = tt
  numbers_are (boolean b) whole = tt
  numbers_are (number n) whole = number_is n whole
  numbers_are (string s) whole = tt
  numbers_are (array items) whole = items_are items whole
  numbers_are (object held) whole = members_are held whole

  items_are : (items : Items) → AreWhole items → tree.ItemsHaveNumbers (items_outline items)
  items_are no_items whole = tt
  items_are (item d items) whole = (numbers_are d whole.0, items_are items whole.1)

  members_are : (held : Members) → HaveWhole held
      → tree.MembersHaveNumbers (members_outline held)
  members_are no_members whole = tt
  members_are (member key d held) whole = (numbers_are d whole.0, members_are held whole.2)

-- depth

mutual
  same_depth : (d : Data) → tree.depth (outline d) ≡ depth d
  same_depth null = refl
  same_depth (boolean b) = refl
  same_depth (number n) = refl
  same_depth (string s) = refl
  same_depth (array items) = ap suc (same_items_depth items)
  same_depth (object held) = ap suc (same_members_depth held)

  same_items_depth : (items : Items) → tree.items_depth (items_outline items) ≡ items_depth items
  same_items_depth no_items = refl
  same_items_depth (item d items) =
      ap (λ n. max n (tree.items_depth (items_outline items))) (same_depth d)
      ∙ ap (max (depth d)) (same_items_depth items)

  same_members_depth : (held : Members)
      → tree.members_depth (members_outline held) ≡ members_depth held
  same_members_depth no_members = refl
  same_members_depth (member key d held) =
      ap (λ n. max n (tree.members_depth (members_outline held))) (same_depth d)
      ∙ ap (max (depth d)) (same_members_depth held)

-- keys in order

-- members with more after them
after : Members → Members → Members
after no_members more = more
after (member key d held) more = member key d (after held more)

after_none : (held : Members) → after held no_members ≡ held
unfolding after
after_none no_members = refl
after_none (member key d held) = ap (member key d) (after_none held)

after_again : (held more last : Members)
    → after (after held more) last ≡ after held (after more last)
unfolding after
after_again no_members more last = refl
after_again (member key d held) more last = ap (member key d) (after_again held more last)

-- all keys of some members stand before a key
abbrev AreBefore : Members → List ℕ → Type 0
AreBefore no_members key = ⊤
AreBefore (member other d held) key = (slice_cmp nat_cmp other key ≡ Less) × AreBefore held key

-- and before all keys of others
abbrev Precede : Members → Members → Type 0
Precede found no_members = ⊤
Precede found (member key d held) = AreBefore found key × Precede found held

put_last : (key : List ℕ) (d : Data) (found : Members) → AreBefore found key
    → put key d found ≡ after found (member key d no_members)
unfolding after
put_last key d no_members before = refl
put_last key d (member other e found) before =
    ap (λ o. match_ordering o (member key d (member other e found)) (member other d found)
    (member other e (put key d found))) (turned other key Less before.0)
    ∙ ap (member other e) (put_last key d found before.1)

before_more : (found : Members) (key other : List ℕ) (d : Data) → AreBefore found other
    → slice_cmp nat_cmp key other ≡ Less → AreBefore (after found (member key d no_members)) other
unfolding after
before_more no_members key other d before is = (is, tt)
before_more (member first e found) key other d before is =
    (before.0, before_more found key other d before.1 is)

precede_more : (found : Members) (key : List ℕ) (d : Data) (held : Members)
    → Precede found held → IsBefore key held → Precede (after found (member key d no_members)) held
precede_more found key d no_members precede is = tt
precede_more found key d (member other e held) precede is = (
  before_more found key other d precede.0 is.0,
  precede_more found key d held precede.1 is.1,
)

none_precede : (held : Members) → Precede no_members held
none_precede no_members = tt
none_precede (member key d held) = (tt, none_precede held)

-- the value of an outline

and_then_some : {A B : Type 0} (f : A → Option B) (o : Option A) (a : A) → o ≡ Some a
    → option_and_then f o ≡ f a
and_then_some f o a e = ap (option_and_then f) e

mutual
  unfolding after

  value_back : (d : Data) → IsWholeData d → of_json (outline d) ≡ Some d
  value_back null whole = refl
  value_back (boolean b) whole = refl
  value_back (number n) whole = ap (option_map number) (number_back n whole)
  value_back (string s) whole = refl
  value_back (array items) whole = ap (option_map array) (items_back items whole)
  value_back (object held) whole =
      ap (option_map object) (members_back held no_members whole (none_precede held))

  items_back : (items : Items) → AreWhole items → of_items (items_outline items) ≡ Some items
  items_back no_items whole = refl
  items_back (item d items) whole =
      ap (option_and_then (λ d. option_map (item d) (of_items (items_outline items))))
      (value_back d whole.0)
      ∙ ap (option_map (item d)) (items_back items whole.1)

  members_back : (held found : Members) → HaveWhole held → Precede found held
      → of_members (members_outline held) found ≡ Some (after found held)
  members_back no_members found whole precede = ap Some (sym (after_none found))
  members_back (member key d held) found whole precede =
      ap (option_and_then (λ d. of_members (members_outline held) (put key d found)))
      (value_back d whole.0)
      ∙ ap (of_members (members_outline held)) (put_last key d found precede.0)
      ∙ members_back held (after found (member key d no_members)) whole.2
      (precede_more found key d held precede.1 whole.1)
      ∙ ap Some (after_again found (member key d no_members) held)

-- JSON is read from its text, in whatever order its keys are
pub read_printed : (j : json.Json) → tree.HasNumbers j → tree.depth j ≤ max_depth
    → read (print (tree.json_tokens j)) ≡ of_json j
read_printed j numbers shallow =
    let printed : tokens (print (tree.json_tokens j)) ≡ tree.json_tokens j =
    tokens-print (tree.json_tokens j) (ArePrintable-json_tokens j numbers) in
    let parsed : json.value max_depth (tree.json_tokens j) ≡ Some (j, []) =
    ap (json.value max_depth) (sym (append-nil (tree.json_tokens j)))
    ∙ value-json_tokens j max_depth [] shallow in
    ap (λ o. option_and_then of_json (option_and_then (λ p. json.if_last p.0 p.1) o))
    (ap (json.value max_depth) printed ∙ parsed)

pub read_back : (d : Data) → IsWholeData d → depth d ≤ max_depth → read (compact_text d) ≡ Some d
read_back d whole shallow =
    ap read (sym (print-outline d))
    ∙ read_printed (outline d) (numbers_are d whole) (omega (arith, same_depth d, shallow))
    ∙ value_back d whole

inner : (d e : Data) → Some d ≡ Some e → d ≡ e
inner d e same = cc same
