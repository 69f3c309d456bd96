-- JSON's compact text has no control character, so it is one line.
use Rattle.std.proofs.Common.{◌≡◌, ◌≤◌, ℕ, zero, suc, ◌/◌, ◌%◌, ◌+◌, ◌==◌, nat_lt, List, [], ◌∷◌}
use Rattle.std.proofs.Common.{◌++◌, Bool, true, false, cond, ℤ, pos, negsuc, decimal, refl, arith}
use Rattle.std.specs.Prelude.{⊤}
use Rattle.std.specs.Char.{digit_char}
use Rattle.std.specs.Fmt.{digits, digits_onto, digit_glyph, signed_decimal}
use Rattle.json.specs.Print.{escape_letter, escape_byte, escape, quoted}
use Rattle.serde_json.specs.Data.{Num, unsigned, negative, float}
use Rattle.serde_json.specs.Data.{Data, null, boolean, number, string}
use Rattle.serde_json.specs.Data.{array, object, Items, no_items, item, Members, no_members, member}
use Rattle.serde_json.specs.Written.{number_text, comma_if, compact_text, items_text, members_text}
use Rattle.cam6_wire.specs.Replies.{reply_data, reply_bytes, fault_bytes, fault_then}
use Rattle.cam6_wire.specs.Faults.{fault_number}
use Rattle.cam6_wire.specs.OneLine.{HasNoLf}
use Rattle.cam6_wire.specs.Outcomes.{outcome_data, outcome_bytes}
use Rattle.cam6_wire.specs.Seats.{seating_data, seating_bytes}
use Rattle.cam6_wire.specs.Laws.{ReplyIsLine, FaultIsLine, OutcomeIsLine, SeatingIsLine}

-- no byte is that of a control character
abbrev IsPlain : List ℕ → Type 0
IsPlain [] = ⊤
IsPlain (b ∷ bs) = (32 ≤ b) × IsPlain bs

plain_append : (xs ys : List ℕ) → IsPlain xs → IsPlain ys → IsPlain (xs ++ ys)
plain_append [] ys plain more = more
plain_append (x ∷ xs) ys plain more = (plain.0, plain_append xs ys plain.1 more)

plain_if : (b : Bool) (xs ys : List ℕ) → (b ≡ true → IsPlain xs) → (b ≡ false → IsPlain ys) →
    IsPlain (cond b xs ys)
plain_if true xs ys one other = one refl
plain_if false xs ys one other = other refl

least_if : (b : Bool) (x y : ℕ) → (b ≡ true → 32 ≤ x) → (b ≡ false → 32 ≤ y) → 32 ≤ cond b x y
least_if true x y one other = one refl
least_if false x y one other = other refl

plain_glyph : (d : ℕ) → 32 ≤ digit_glyph false d
plain_glyph d = least_if (nat_lt d 10) (48 + d) (87 + d) (λ is. omega arith) (λ is. omega arith)

plain_onto : (k n : ℕ) (after : List ℕ) → IsPlain after →
    IsPlain (digits_onto k 10 false n after)
plain_onto zero n after plain = plain
plain_onto (suc k) n after plain =
    plain_if (n / 10 == 0) (digit_glyph false (n % 10) ∷ after)
    (digits_onto k 10 false (n / 10) (digit_glyph false (n % 10) ∷ after))
    (λ is. (plain_glyph (n % 10), plain))
    (λ is. plain_onto k (n / 10) (digit_glyph false (n % 10) ∷ after)
    (plain_glyph (n % 10), plain))

plain_decimal : (n : ℕ) → IsPlain (decimal n)
unfolding digits
plain_decimal n = plain_onto 64 n [] tt

plain_signed : (z : ℤ) → IsPlain (signed_decimal z)
plain_signed (pos n) = plain_decimal n
plain_signed (negsuc n) = (omega arith, plain_decimal (suc n))

plain_number : (n : Num) → IsPlain (number_text n)
plain_number (unsigned n) = plain_decimal n
plain_number (negative z) = plain_signed z
plain_number (float x) = tt

plain_digit : (d : ℕ) → 32 ≤ digit_char d
plain_digit d = least_if (nat_lt d 10) (48 + d) (87 + d) (λ is. omega arith) (λ is. omega arith)

-- the letter of a short escape
plain_letter : (x : ℕ) → nat_lt 0 (escape_letter x) ≡ true → 32 ≤ escape_letter x
plain_letter x short = grind arith

plain_other : (x : ℕ) → nat_lt x 32 ≡ false → 32 ≤ x
plain_other x is = grind arith

plain_byte : (x : ℕ) → IsPlain (escape_byte x)
unfolding escape_byte
plain_byte x =
    plain_if (nat_lt 0 (escape_letter x)) (92 ∷ escape_letter x ∷ [])
    (cond (nat_lt x 32)
    (92 ∷ 117 ∷ 48 ∷ 48 ∷ digit_char (x / 16) ∷ digit_char (x % 16) ∷ []) (x ∷ []))
    (λ short. (omega arith, (plain_letter x short, tt)))
    (λ long.
    plain_if (nat_lt x 32)
    (92 ∷ 117 ∷ 48 ∷ 48 ∷ digit_char (x / 16) ∷ digit_char (x % 16) ∷ []) (x ∷ [])
    (λ is. (
      omega arith,
      (
        omega arith,
        (
          omega arith,
          (
            omega arith,
            (plain_digit (x / 16), (plain_digit (x % 16), tt)),
          ),
        ),
      ),
    ))
    (λ is. (plain_other x is, tt)))

plain_escape : (s : List ℕ) → IsPlain (escape s)
plain_escape [] = tt
plain_escape (x ∷ s) = plain_append (escape_byte x) (escape s) (plain_byte x) (plain_escape s)

plain_quoted : (s : List ℕ) → IsPlain (quoted s)
plain_quoted s =
    (omega arith, plain_append (escape s) (34 ∷ []) (plain_escape s) (omega arith, tt))

plain_comma : (later : Bool) → IsPlain (comma_if later)
plain_comma true = (omega arith, tt)
plain_comma false = tt

plain_boolean : (b : Bool) → IsPlain (compact_text (boolean b))
plain_boolean true = (omega arith, (omega arith, (omega arith, (omega arith, tt))))
plain_boolean false = (omega arith, (omega arith, (omega arith, (omega arith, (omega arith, tt)))))

mutual
  plain_text : (d : Data) → IsPlain (compact_text d)
  plain_text null = (omega arith, (omega arith, (omega arith, (omega arith, tt))))
  plain_text (boolean b) = plain_boolean b
  plain_text (number n) = plain_number n
  plain_text (string s) = plain_quoted s
  plain_text (array items) = (omega arith, plain_items false items)
  plain_text (object held) = (omega arith, plain_members false held)

  plain_items : (later : Bool) (items : Items) → IsPlain (items_text later items)
  plain_items later no_items = (omega arith, tt)
  plain_items later (item d items) =
      plain_append (comma_if later) (compact_text d ++ items_text true items) (plain_comma later)
      (plain_append (compact_text d) (items_text true items) (plain_text d)
      (plain_items true items))

  plain_members : (later : Bool) (held : Members) → IsPlain (members_text later held)
  plain_members later no_members = (omega arith, tt)
  plain_members later (member key d held) =
      plain_append (comma_if later)
      (quoted key ++ 58 ∷ (compact_text d ++ members_text true held)) (plain_comma later)
      (plain_append (quoted key) (58 ∷ (compact_text d ++ members_text true held))
      (plain_quoted key) (
        omega arith,
        plain_append (compact_text d) (members_text true held) (plain_text d)
            (plain_members true held),
      ))

-- a plain text is one line
one_line : (bs : List ℕ) → IsPlain bs → HasNoLf bs
one_line [] plain k d within = let never : ⊥ = omega (arith, within) in absurd never
one_line (b ∷ bs) plain zero d within = λ is. let never : ⊥ = omega (arith, plain.0, is) in never
one_line (b ∷ bs) plain (suc k) d within = one_line bs plain.1 k d (omega (arith, within))

pub reply_is_line : ReplyIsLine
unfolding reply_bytes
reply_is_line reply = one_line (compact_text (reply_data reply)) (plain_text (reply_data reply))

pub fault_is_line : FaultIsLine
unfolding fault_bytes
fault_is_line fault =
    one_line (compact_text (object (fault_then (fault_number fault) no_members)))
    (plain_text (object (fault_then (fault_number fault) no_members)))

pub outcome_is_line : OutcomeIsLine
unfolding outcome_bytes
outcome_is_line outcome =
    one_line (compact_text (outcome_data outcome)) (plain_text (outcome_data outcome))

pub seating_is_line : SeatingIsLine
unfolding seating_bytes
seating_is_line seating =
    one_line (compact_text (seating_data seating)) (plain_text (seating_data seating))
