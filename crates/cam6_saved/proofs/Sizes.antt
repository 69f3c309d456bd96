-- How long compact texts are at most: of values, of strings, and of lists of them.
use Rattle.std.proofs.Common.{◌≡◌, ◌≤◌, ◌<◌, ◌+◌, ◌*◌, ◌/◌, ◌%◌, ◌==◌, ℕ, zero, suc, List, [], ◌∷◌}
use Rattle.std.proofs.Common.{◌++◌, map, length, Bool, true, false, cond, refl, arith, nat_lt}
use Rattle.std.proofs.Common.{length-append, decimal, slice_index, nat_le}
use Rattle.std.specs.List.{AllByRecursion}
use Rattle.std.specs.Fmt.{digits, digits_onto, digit_glyph}
use Rattle.std.proofs.lemmas.Bool.{leb-true, le-ltb}
use Rattle.std.proofs.lemmas.List.Sums.{AllPass-from_list_all}
use Rattle.hex.specs.Hex.{encode_lower, encode_with, lower_digits, IsBytes}
use Rattle.hex.proofs.HexLemmas.{length-encode_with}
use Rattle.json.specs.Print.{escape_letter, escape_byte, escape, quoted}
use Rattle.serde_json.specs.Data.{Data, null, boolean, number, string, array, object, Items}
use Rattle.serde_json.specs.Data.{no_items, item, Members, no_members, member}
use Rattle.serde_json.specs.View.{items_of}
use Rattle.serde_json.specs.Written.{number_text, comma_if, compact_text, items_text, members_text}

-- at most so many bytes: an item has a comma, and a member a comma, a colon and a key of which each
-- byte may be written as six
abbrev mutual
  pub size : Data → ℕ
  size null = 4
  size (boolean b) = 5
  size (number n) = length (number_text n)
  size (string text) = length (quoted text)
  size (array items) = items_size items + 2
  size (object held) = members_size held + 2

  pub items_size : Items → ℕ
  items_size no_items = 0
  items_size (item d items) = size d + items_size items + 1

  pub members_size : Members → ℕ
  members_size no_members = 0
  members_size (member key d held) = 6 * length key + size d + members_size held + 4

-- strings

if_most : (b : Bool) (xs ys : List ℕ) (k : ℕ) → length xs ≤ k → length ys ≤ k →
    length (cond b xs ys) ≤ k
if_most true xs ys k one other = one
if_most false xs ys k one other = other

else_most : (b : Bool) (xs ys : List ℕ) (k : ℕ) → b ≡ false → length ys ≤ k →
    length (cond b xs ys) ≤ k
else_most true xs ys k is other = cc is
else_most false xs ys k is other = other

byte_six : (b : ℕ) → length (escape_byte b) ≤ 6
unfolding escape_byte
byte_six b =
    if_most (nat_lt 0 (escape_letter b)) _ _ 6 (omega arith)
    (if_most (nat_lt b 32) _ _ 6 (omega arith) (omega arith))

byte_two : (b : ℕ) → 32 ≤ b → length (escape_byte b) ≤ 2
unfolding escape_byte
byte_two b plain =
    if_most (nat_lt 0 (escape_letter b)) _ _ 2 (omega arith)
    (else_most (nat_lt b 32) _ _ 2 (le-ltb b 32 plain) (omega arith))

escape_six : (text : List ℕ) → length (escape text) ≤ 6 * length text
escape_six [] = omega arith
escape_six (b ∷ text) =
    let parts = length-append (escape_byte b) (escape text) in
    omega (arith, byte_six b, escape_six text, parts)

escape_two : (text : List ℕ) → AllByRecursion (λ b. 32 ≤ b) text →
    length (escape text) ≤ 2 * length text
escape_two [] plain = omega arith
escape_two (b ∷ text) plain =
    let parts = length-append (escape_byte b) (escape text) in
    omega (arith, byte_two b plain.0, escape_two text plain.1, parts)

-- a string has two quotes, and each byte is written as six at most,
pub string_six : (text : List ℕ) → length (quoted text) ≤ 6 * length text + 2
string_six text =
    let parts = length-append (escape text) (34 ∷ []) in omega (arith, escape_six text, parts)

-- or as two where it isn't that of a control character
string_two : (text : List ℕ) → AllByRecursion (λ b. 32 ≤ b) text →
    length (quoted text) ≤ 2 * length text + 2
string_two text plain =
    let parts = length-append (escape text) (34 ∷ []) in omega (arith, escape_two text plain, parts)

-- values

comma_most : (later : Bool) → length (comma_if later) ≤ 1
comma_most true = omega arith
comma_most false = omega arith

boolean_most : (b : Bool) → length (compact_text (boolean b)) ≤ 5
boolean_most true = omega arith
boolean_most false = omega arith

mutual
  pub text_most : (d : Data) → length (compact_text d) ≤ size d
  text_most null = omega arith
  text_most (boolean b) = boolean_most b
  text_most (number n) = omega arith
  text_most (string text) = omega arith
  text_most (array items) = omega (arith, items_most false items)
  text_most (object held) = omega (arith, members_most false held)

  items_most : (later : Bool) (items : Items) →
      length (items_text later items) ≤ items_size items + 1
  items_most later no_items = omega arith
  items_most later (item d items) =
      let more = compact_text d ++ items_text true items in
      let all = length-append (comma_if later) more in
      let parts = length-append (compact_text d) (items_text true items) in
      omega (arith, text_most d, items_most true items, comma_most later, all, parts)

  members_most : (later : Bool) (held : Members) →
      length (members_text later held) ≤ members_size held + 1
  members_most later no_members = omega arith
  members_most later (member key d held) =
      let rest = compact_text d ++ members_text true held in
      let all = length-append (comma_if later) (quoted key ++ 58 ∷ rest) in
      let more = length-append (quoted key) (58 ∷ rest) in
      let parts = length-append (compact_text d) (members_text true held) in
      omega (
        arith,
        text_most d,
        members_most true held,
        comma_most later,
        string_six key,
        all,
        more,
        parts,
      )

-- whole numbers

onto_most : (k n : ℕ) (after : List ℕ) →
    length (digits_onto k 10 false n after) ≤ k + length after
onto_most zero n after = omega arith
onto_most (suc k) n after =
    let more = onto_most k (n / 10) (digit_glyph false (n % 10) ∷ after) in
    if_most (n / 10 == 0) (digit_glyph false (n % 10) ∷ after)
    (digits_onto k 10 false (n / 10) (digit_glyph false (n % 10) ∷ after)) (suc k + length after)
    (omega arith) (omega (arith, more))

pub decimal_most : (n : ℕ) → length (decimal n) ≤ 64
unfolding digits
decimal_most n = onto_most 64 n []

-- the digits of bytes

plain_digit : (i : ℕ) → i < 16 → 32 ≤ slice_index lower_digits i
plain_digit i below =
    leb-true 32 (slice_index lower_digits i)
    (AllPass-from_list_all (λ b. nat_le 32 b) lower_digits refl i 0 below)

plain_digits : (bytes : List ℕ) → IsBytes bytes →
    AllByRecursion (λ b. 32 ≤ b) (encode_lower bytes)
unfolding encode_with
plain_digits [] are = tt
plain_digits (b ∷ bytes) are =
    let small : b < 256 = are 0 in (
      plain_digit (b / 16) (omega (arith, small)),
      (plain_digit (b % 16) (omega arith), plain_digits bytes (λ i. are (suc i))),
    )

pub digits_most : (bytes : List ℕ) → IsBytes bytes →
    length (quoted (encode_lower bytes)) ≤ 4 * length bytes + 2
digits_most bytes are =
    let two = string_two (encode_lower bytes) (plain_digits bytes are) in
    omega (arith, two, length-encode_with lower_digits bytes)

-- n times k, one by one
abbrev pub times : ℕ → ℕ → ℕ
times zero k = zero
times (suc n) k = k + times n k

-- at most n items, of at most k bytes each
pub all_most : {A : Type 0} (f : A → Data) (k n : ℕ) (xs : List A) → length xs ≤ n →
    AllByRecursion (λ x. size (f x) ≤ k) xs →
    items_size (items_of (map f xs)) ≤ times n (k + 1)
all_most f k n [] few are = omega arith
all_most f k zero (x ∷ xs) few are = absurd (omega (arith, few))
all_most f k (suc n) (x ∷ xs) few are =
    let rest = all_most f k n xs (omega (arith, few)) are.1 in
    let first : size (f x) ≤ k = are.0 in
    omega (arith, rest, first)
