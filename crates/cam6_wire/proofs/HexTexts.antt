-- Hexadecimal digits stand for themselves in a JSON string, and are ASCII.
use Rattle.std.proofs.Common.{◌≡◌, ◌<◌, ◌≤◌, ◌-◌, ◌*◌, ◌/◌, ℕ, List, [], ◌∷◌, ◌++◌, length, Bool, true}
use Rattle.std.proofs.Common.{false, cond, ◌&&◌, nat_lt, nat_le, ◌⊎◌, inl, inr, Option, Some, None}
use Rattle.std.proofs.Common.{is_some, Result, Ok, Err, option_and_then, refl, sym, ap, ◌∙◌, arith}
use Rattle.std.proofs.lemmas.Bool.{and_parts}
use Rattle.std.proofs.lemmas.List.Elements.{All-head, All-tail}
use Rattle.std.specs.List.{AllPass}
use Rattle.std.specs.Result.{result_ok}
use Rattle.hex.specs.Hex.{is_hex_digit, decode_sized}
use Rattle.hex.specs.declared.error.FromHexError.{FromHexError}
use Rattle.hex.proofs.HexLemmas.{decode_sized-ok, decode_sized-twice, decode_of-ok}
use Rattle.json.specs.Print.{escape}
use Rattle.json.proofs.Printed.Strings.{escape_byte_plain}
use Rattle.json.proofs.Printed.Utf8.{are_ascii}
use Rattle.cam6_planes.specs.Side.{side_number, side_of}
use Rattle.cam6_planes.specs.declared.sides.Side.{Side}
use Rattle.cam6_planes.specs.Digits.{bits_of_digits}

abbrev IsDigit : ℕ → Type 0
IsDigit x = is_hex_digit x ≡ true

-- each is a hexadecimal digit, of either case
abbrev pub AreHexDigits : List ℕ → Type 0
AreHexDigits digits = AllPass is_hex_digit digits

is_least : (a b : ℕ) → nat_le a b ≡ true → a ≤ b
is_least a b is = grind arith

is_between : (least most x : ℕ) → (nat_le least x && nat_le x most) ≡ true →
    (least ≤ x) × (x ≤ most)
is_between least most x is =
    let parts = and_parts (nat_le least x) (nat_le x most) is in
    (is_least least x parts.0, is_least x most parts.1)

-- the first of three tests that holds
one_of_three : (a b c : Bool) (u v w : ℕ) →
    is_some (cond a (Some u) (cond b (Some v) (cond c (Some w) None))) ≡ true →
    (a ≡ true) ⊎ ((b ≡ true) ⊎ (c ≡ true))
one_of_three true b c u v w is = inl refl
one_of_three false true c u v w is = inr (inl refl)
one_of_three false false true u v w is = inr (inr refl)
one_of_three false false false u v w is = let never : ⊥ = cc in absurd never

-- from 48 on, below 128, and not the backslash
abbrev IsPlainByte : ℕ → Type 0
IsPlainByte x = (48 ≤ x) × (x < 128) × (x ≡ 92 → ⊥)

digit_is_plain : (x : ℕ) → IsDigit x → IsPlainByte x
digit_is_plain x is =
    by_range
    (one_of_three (nat_le 65 x && nat_le x 70) (nat_le 97 x && nat_le x 102)
    (nat_le 48 x && nat_le x 57) (x - 55) (x - 87) (x - 48) is)
  where
    plain : (least most : ℕ) → 48 ≤ least → most < 128 → (least ≤ 92 → most < 92) →
        (least ≤ x) × (x ≤ most) → IsPlainByte x
    plain least most low high apart within = (
      omega (arith, low, within.0),
      omega (arith, high, within.1),
      λ e. let below = apart (omega (arith, within.0, e)) in omega (arith, below, within.1, e),
    )

    by_range : ((nat_le 65 x && nat_le x 70) ≡ true)
        ⊎ (((nat_le 97 x && nat_le x 102) ≡ true) ⊎ ((nat_le 48 x && nat_le x 57) ≡ true)) →
        IsPlainByte x
    by_range (inl upper) =
        plain 65 70 (omega arith) (omega arith) (λ e. omega arith) (is_between 65 70 x upper)
    by_range (inr (inl lower)) =
        plain 97 102 (omega arith) (omega arith) (λ e. omega (arith, e)) (is_between 97 102 x lower)
    by_range (inr (inr decimal)) =
        plain 48 57 (omega arith) (omega arith) (λ e. omega arith) (is_between 48 57 x decimal)

below_128 : (x : ℕ) → x < 128 → nat_lt x 128 ≡ true
below_128 x small = grind arith

pub hex_escaped : (digits : List ℕ) → AreHexDigits digits → escape digits ≡ digits
hex_escaped [] are = refl
hex_escaped (x ∷ digits) are =
    let plain = digit_is_plain x (All-head IsDigit x digits are) in
    ap (λ front. front ++ escape digits)
    (escape_byte_plain x (λ e. omega (arith, plain.0, e)) plain.2 (omega (arith, plain.0))) ∙
    ap (λ rest. x ∷ rest) (hex_escaped digits (All-tail IsDigit x digits are))

pub hex_ascii : (digits : List ℕ) → AreHexDigits digits → are_ascii digits ≡ true
hex_ascii [] are = refl
hex_ascii (x ∷ digits) are =
    let small = below_128 x (digit_is_plain x (All-head IsDigit x digits are)).1 in
    rw small (hex_ascii digits (All-tail IsDigit x digits are))

sized_hex : (n : ℕ) (digits bits : List ℕ) → decode_sized digits n ≡ Ok bits → AreHexDigits digits
sized_hex n digits bits is =
    let twice = decode_sized-ok digits n bits is in
    (decode_of-ok digits bits (sym (decode_sized-twice digits n twice) ∙ is)).1

of_result : (n : ℕ) (digits bits : List ℕ) (r : Result (List ℕ) FromHexError) →
    decode_sized digits n ≡ r → result_ok r ≡ Some bits → AreHexDigits digits
of_result n digits bits (Ok found) is e = sized_hex n digits found is
of_result n digits bits (Err fault) is e = let never : ⊥ = cc in absurd never

of_side : (digits bits : List ℕ) (o : Option Side) →
    option_and_then (λ side. result_ok (decode_sized digits (side_number side / 8))) o ≡ Some bits →
    AreHexDigits digits
of_side digits bits None e = let never : ⊥ = cc in absurd never
of_side digits bits (Some side) e =
    of_result (side_number side / 8) digits bits
    (decode_sized digits (side_number side / 8)) refl e

-- digits that say bits are hexadecimal digits
pub bits_are_hex : (digits bits : List ℕ) → bits_of_digits digits ≡ Some bits → AreHexDigits digits
bits_are_hex digits bits e = of_side digits bits (side_of (4 * length digits)) e
