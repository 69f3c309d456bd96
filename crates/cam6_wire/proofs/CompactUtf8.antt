-- The compact text of a value of whole numbers is UTF-8 where its strings and keys are.
use Rattle.std.proofs.Common.{◌≡◌, ℕ, ◌+◌, ◌<◌, zero, suc, ◌/◌, ◌%◌, ◌==◌, nat_lt, List, [], ◌∷◌}
use Rattle.std.proofs.Common.{Bool, true, false, cond, refl, arith, decimal, IsUtf8}
use Rattle.std.specs.Fmt.{digits, digits_onto, digit_glyph}
use Rattle.std.proofs.lemmas.Str.{IsUtf8-append, IsUtf8-nil}
use Rattle.json.proofs.Printed.Utf8.{are_ascii, IsUtf8-are_ascii, IsUtf8-quoted, IsUtf8-boolean}
use Rattle.serde_json.specs.Data.{Num, unsigned, negative, float, Data, null, boolean, number}
use Rattle.serde_json.specs.Data.{string, array, object, Items, no_items, item, Members}
use Rattle.serde_json.specs.Data.{no_members, member}
use Rattle.serde_json.specs.Written.{compact_text, number_text, comma_if, items_text, members_text}
use Rattle.cam6_wire.proofs.ReadBack.{IsWhole, IsWholeData, AreWhole, HaveWhole}
use Rattle.cam6_wire.proofs.TextsAreUtf8.{HasTexts, HaveTexts, HoldTexts}

ascii_glyph : (b : Bool) (d : ℕ) → d < 10 → nat_lt (cond b (48 + d) (87 + d)) 128 ≡ true
ascii_glyph true d small = grind arith
ascii_glyph false d small = grind arith

ascii_more : (x : ℕ) (xs : List ℕ) → nat_lt x 128 ≡ true → are_ascii xs ≡ true →
    are_ascii (x ∷ xs) ≡ true
ascii_more x xs small rest = rw small rest

ascii_if : (b : Bool) (xs ys : List ℕ) → are_ascii xs ≡ true → are_ascii ys ≡ true →
    are_ascii (cond b xs ys) ≡ true
ascii_if true xs ys one other = one
ascii_if false xs ys one other = other

ascii_onto : (k n : ℕ) (after : List ℕ) → are_ascii after ≡ true →
    are_ascii (digits_onto k 10 false n after) ≡ true
ascii_onto zero n after is = is
ascii_onto (suc k) n after is =
    let more = ascii_more (digit_glyph false (n % 10)) after
    (ascii_glyph (nat_lt (n % 10) 10) (n % 10) (omega arith)) is in
    ascii_if (n / 10 == 0) _ _ more (ascii_onto k (n / 10) _ more)

pub ascii_decimal : (n : ℕ) → are_ascii (decimal n) ≡ true
unfolding digits
ascii_decimal n = ascii_onto 64 n [] refl

number_utf8 : (n : Num) → IsWhole n → IsUtf8 (number_text n)
number_utf8 (unsigned n) whole = IsUtf8-are_ascii (decimal n) (ascii_decimal n)
number_utf8 (negative z) whole = absurd whole
number_utf8 (float x) whole = absurd whole

byte_then : (x : ℕ) (xs : List ℕ) → are_ascii (x ∷ []) ≡ true → IsUtf8 xs → IsUtf8 (x ∷ xs)
byte_then x xs small rest = IsUtf8-append (x ∷ []) xs (IsUtf8-are_ascii (x ∷ []) small) rest

comma_utf8 : (later : Bool) → IsUtf8 (comma_if later)
comma_utf8 true = IsUtf8-are_ascii (44 ∷ []) refl
comma_utf8 false = IsUtf8-nil

mutual
  pub text_is_utf8 : (d : Data) → IsWholeData d → HasTexts d → IsUtf8 (compact_text d)
  text_is_utf8 null whole has = IsUtf8-are_ascii (110 ∷ 117 ∷ 108 ∷ 108 ∷ []) refl
  text_is_utf8 (boolean b) whole has = IsUtf8-boolean b
  text_is_utf8 (number n) whole has = number_utf8 n whole
  text_is_utf8 (string s) whole has = IsUtf8-quoted s has
  text_is_utf8 (array items) whole has = byte_then 91 _ refl (items_utf8 false items whole has)
  text_is_utf8 (object held) whole has = byte_then 123 _ refl (members_utf8 false held whole has)

  items_utf8 : (later : Bool) (items : Items) → AreWhole items → HaveTexts items →
      IsUtf8 (items_text later items)
  items_utf8 later no_items whole has = IsUtf8-are_ascii (93 ∷ []) refl
  items_utf8 later (item d items) whole has =
      IsUtf8-append _ _ (comma_utf8 later)
      (IsUtf8-append _ _ (text_is_utf8 d whole.0 has.0) (items_utf8 true items whole.1 has.1))

  members_utf8 : (later : Bool) (held : Members) → HaveWhole held → HoldTexts held →
      IsUtf8 (members_text later held)
  members_utf8 later no_members whole has = IsUtf8-are_ascii (125 ∷ []) refl
  members_utf8 later (member key d held) whole has =
      IsUtf8-append _ _ (comma_utf8 later)
      (IsUtf8-append _ _ (IsUtf8-quoted key has.0)
      (byte_then 58 _ refl
      (IsUtf8-append _ _ (text_is_utf8 d whole.0 has.1) (members_utf8 true held whole.2 has.2))))
