-- The keys and strings of a value whose tokens have UTF-8 texts are UTF-8.
use Rattle.std.proofs.Common.{ℕ, zero, suc, List, [], ◌∷◌, length, Option, Some, None, IfSome}
use Rattle.std.proofs.Common.{option_and_then, IsUtf8}
use Rattle.std.specs.Prelude.{⊤}
use Rattle.json.specs.Token.{Token}
use Rattle.json.specs.Json.{Json, null, boolean, number, string, array, object, Items, no_items}
use Rattle.json.specs.Json.{item, Members, no_members, member, Parse, parse_map, after_end_array}
use Rattle.json.specs.Json.{read_key, items_step, members_step, items, members, value_with, value}
use Rattle.json.specs.Json.{if_last}
use Rattle.cam6_wire.proofs.Utf8Tokens.{AreTextTokens}

-- each string and each key in a value is UTF-8
abbrev mutual
  pub IsOfTexts : Json → Type 0
  IsOfTexts null = ⊤
  IsOfTexts (boolean b) = ⊤
  IsOfTexts (number digits) = ⊤
  IsOfTexts (string text) = IsUtf8 text
  IsOfTexts (array js) = AreOfTexts js
  IsOfTexts (object ms) = HaveOfTexts ms

  pub AreOfTexts : Items → Type 0
  AreOfTexts no_items = ⊤
  AreOfTexts (item j js) = IsOfTexts j × AreOfTexts js

  pub HaveOfTexts : Members → Type 0
  HaveOfTexts no_members = ⊤
  HaveOfTexts (member key j ms) = IsUtf8 key × IsOfTexts j × HaveOfTexts ms

-- what is read, before tokens whose texts are UTF-8
abbrev BeforeTexts : {A : Type 0} → (A → Type 0) → A × List Token → Type 0
BeforeTexts P p = P p.0 × AreTextTokens p.1

abbrev Reads : {A : Type 0} → (A → Type 0) → Parse A → Type 0
Reads P read = (ts : List Token) → AreTextTokens ts → IfSome (read ts) (BeforeTexts P)

mapped : {A B : Type 0} (P : A → Type 0) (Q : B → Type 0) (f : A → B) → ((a : A) → P a → Q (f a)) →
    (o : Option (A × List Token)) → IfSome o (BeforeTexts P) →
    IfSome (parse_map f o) (BeforeTexts Q)
mapped P Q f holds None are = tt
mapped P Q f holds (Some p) are = (holds p.0 are.0, are.1)

and_more : {B : Type 0} (Q : B → Type 0) (f : Json → B → B) →
    ((j : Json) (b : B) → IsOfTexts j → Q b → Q (f j b)) → (more : Parse B) → Reads Q more →
    (o : Option (Json × List Token)) → IfSome o (BeforeTexts IsOfTexts) →
    IfSome (option_and_then (λ p. parse_map (f p.0) (more p.1)) o) (BeforeTexts Q)
and_more Q f holds more reads None are = tt
and_more Q f holds more reads (Some p) are =
    mapped Q Q (f p.0) (λ b is. holds p.0 b are.0 is) (more p.1) (reads p.1 are.1)

array_ends : (ts : List Token) → AreTextTokens ts → IfSome (after_end_array ts) AreTextTokens
array_ends [] are = tt
array_ends (Token.begin_object ∷ ts) are = tt
array_ends (Token.end_object ∷ ts) are = tt
array_ends (Token.begin_array ∷ ts) are = tt
array_ends (Token.end_array ∷ ts) are = are.1
array_ends (Token.key s ∷ ts) are = tt
array_ends (Token.string s ∷ ts) are = tt
array_ends (Token.number s ∷ ts) are = tt
array_ends (Token.boolean b ∷ ts) are = tt
array_ends (Token.null ∷ ts) are = tt
array_ends (Token.bad ∷ ts) are = tt

key_read : Reads (λ o. IfSome o IsUtf8) read_key
key_read [] are = tt
key_read (Token.begin_object ∷ ts) are = tt
key_read (Token.end_object ∷ ts) are = (tt, are.1)
key_read (Token.begin_array ∷ ts) are = tt
key_read (Token.end_array ∷ ts) are = tt
key_read (Token.key s ∷ ts) are = (are.0, are.1)
key_read (Token.string s ∷ ts) are = tt
key_read (Token.number s ∷ ts) are = tt
key_read (Token.boolean b ∷ ts) are = tt
key_read (Token.null ∷ ts) are = tt
key_read (Token.bad ∷ ts) are = tt

module _ (read : Parse Json) (reads : Reads IsOfTexts read) where
  item_back : (more : Parse Items) → Reads AreOfTexts more → (ts : List Token) →
      AreTextTokens ts → (o : Option (List Token)) → IfSome o AreTextTokens →
      IfSome (items_step read more ts o) (BeforeTexts AreOfTexts)
  item_back more again ts are (Some rest) left = (tt, left)
  item_back more again ts are None left =
      and_more AreOfTexts item (λ j js is also. (is, also)) more again (read ts) (reads ts are)

  items_read : (n : ℕ) → Reads AreOfTexts (items read n)
  unfolding items
  items_read zero ts are = tt
  items_read (suc n) ts are =
      item_back (items read n) (items_read n) ts are (after_end_array ts) (array_ends ts are)

  member_back : (more : Parse Members) → Reads HaveOfTexts more →
      (o : Option (Option (List ℕ) × List Token)) →
      IfSome o (BeforeTexts (λ key. IfSome key IsUtf8)) →
      IfSome (option_and_then (λ p. members_step read more p.0 p.1) o) (BeforeTexts HaveOfTexts)
  member_back more again None are = tt
  member_back more again (Some (None, ts)) are = (tt, are.1)
  member_back more again (Some (Some key, ts)) are =
      and_more HaveOfTexts (member key) (λ j ms is also. (are.0, is, also)) more again (read ts)
      (reads ts are.1)

  members_read : (n : ℕ) → Reads HaveOfTexts (members read n)
  unfolding members
  members_read zero ts are = tt
  members_read (suc n) ts are =
      member_back (members read n) (members_read n) (read_key ts) (key_read ts are)

one_level : (a : Parse Items) (o : Parse Members) → Reads AreOfTexts a → Reads HaveOfTexts o →
    Reads IsOfTexts (value_with a o)
one_level a o of_items of_members [] are = tt
one_level a o of_items of_members (Token.begin_object ∷ ts) are =
    mapped HaveOfTexts IsOfTexts object (λ ms have. have) (o ts) (of_members ts are.1)
one_level a o of_items of_members (Token.end_object ∷ ts) are = tt
one_level a o of_items of_members (Token.begin_array ∷ ts) are =
    mapped AreOfTexts IsOfTexts array (λ js each. each) (a ts) (of_items ts are.1)
one_level a o of_items of_members (Token.end_array ∷ ts) are = tt
one_level a o of_items of_members (Token.key s ∷ ts) are = tt
one_level a o of_items of_members (Token.string s ∷ ts) are = (are.0, are.1)
one_level a o of_items of_members (Token.number s ∷ ts) are = (tt, are.1)
one_level a o of_items of_members (Token.boolean b ∷ ts) are = (tt, are.1)
one_level a o of_items of_members (Token.null ∷ ts) are = (tt, are.1)
one_level a o of_items of_members (Token.bad ∷ ts) are = tt

value_read : (depth : ℕ) → Reads IsOfTexts (value depth)
unfolding value
value_read zero = one_level (λ ts. None) (λ ts. None) (λ ts are. tt) (λ ts are. tt)
value_read (suc depth) =
    one_level (λ ts. items (value depth) (length ts) ts)
    (λ ts. members (value depth) (length ts) ts)
    (λ ts are. items_read (value depth) (value_read depth) (length ts) ts are)
    (λ ts are. members_read (value depth) (value_read depth) (length ts) ts are)

alone : (o : Option (Json × List Token)) → IfSome o (BeforeTexts IsOfTexts) →
    IfSome (option_and_then (λ p. if_last p.0 p.1) o) IsOfTexts
alone None are = tt
alone (Some (j, [])) are = are.0
alone (Some (j, t ∷ ts)) are = tt

-- the one value that the tokens are
pub document_is_of_texts : (depth : ℕ) (ts : List Token) → AreTextTokens ts →
    IfSome (option_and_then (λ p. if_last p.0 p.1) (value depth ts)) IsOfTexts
document_is_of_texts depth ts are = alone (value depth ts) (value_read depth ts are)
