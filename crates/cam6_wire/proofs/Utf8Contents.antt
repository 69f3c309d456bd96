-- The content of a JSON string that stands in UTF-8 bytes is UTF-8.
use Rattle.std.proofs.Common.{◌≡◌, ◌<◌, ◌+◌, ◌*◌, ◌-◌, ℕ, List, [], ◌∷◌, ◌++◌, length}
use Rattle.std.proofs.Common.{get_or, true, false, cond, ◌==◌, ◌||◌, ◌&&◌, nat_lt}
use Rattle.std.proofs.Common.{Option, Some, None, IfSome, IsUtf8, lit<}
use Rattle.std.proofs.Common.{refl, sym, ap, ◌∙◌, subst, arith, append_assoc, append-nil, ⊎_elim}
use Rattle.std.specs.Char.{digit_value, is_digit, IsScalar, encode_utf8}
use Rattle.std.proofs.lemmas.Bool.{eqb-true, ltb-true, and_parts, or_cases, cond_both}
use Rattle.std.proofs.lemmas.Bool.Decides.{nat_tests}
use Rattle.std.proofs.lemmas.List.{take_at, drop_at, get_or-append_right, length-append}
use Rattle.std.proofs.lemmas.Option.{IfSome_then}
use Rattle.std.proofs.lemmas.Str.{IsUtf8-append, IsUtf8-encode, IsUtf8-take, IsUtf8-drop}
use Rattle.std.proofs.lemmas.Str.{IsUtf8-from_ascii, IsUtf8-past_char, encode_ascii}
use Rattle.std.proofs.lemmas.Str.{IsCharBoundary-before_ascii}
use Rattle.std.proofs.lemmas.Str.Ascii.{IsAscii-cons, IsAscii-nil}
use Rattle.json.specs.Ascii as ascii
use Rattle.json.specs.Text.{code_unit, short_escape, is_high_surrogate, is_low_surrogate}
use Rattle.json.specs.Text.{surrogate_pair, Within, plain, after_backslash, after_u, after_high}
use Rattle.json.specs.Text.{prepend, content}
use Rattle.cam6_wire.proofs.Steps.{of_map, of_step, of_test}

-- what follows an ASCII byte of UTF-8 is UTF-8
after_ascii : (byte : ℕ) (bytes : List ℕ) → byte < 128 → IsUtf8 (byte ∷ bytes) → IsUtf8 bytes
after_ascii byte bytes small text =
    IsUtf8-past_char (byte ∷ bytes) bytes byte text
    (sym (ap (λ front. front ++ bytes) (encode_ascii byte small)))

one_ascii : (byte : ℕ) → byte < 128 → IsUtf8 (byte ∷ [])
one_ascii byte small = IsUtf8-from_ascii (byte ∷ []) (IsAscii-cons byte [] small IsAscii-nil)

-- an ASCII byte parts UTF-8 in two
parted : (front : List ℕ) (byte : ℕ) (bytes : List ℕ) → byte < 128 →
    IsUtf8 (front ++ byte ∷ bytes) → IsUtf8 front × IsUtf8 bytes
parted front byte bytes small text =
    let n = length front in
    let bs = front ++ byte ∷ bytes in
    let none : n - n ≡ 0 = omega arith in
    let there : get_or bs n 0 ≡ byte =
    get_or-append_right front (byte ∷ bytes) n n 0 refl (omega arith) ∙
    ap (λ i. get_or (byte ∷ bytes) i 0) none in
    let within : n < length bs = omega (arith, length-append front (byte ∷ bytes)) in
    let boundary = IsCharBoundary-before_ascii bs n within (omega arith) in (
      subst IsUtf8 (take_at front (byte ∷ bytes) n refl) (IsUtf8-take bs n text boundary),
      after_ascii byte bytes small
          (subst IsUtf8 (drop_at front (byte ∷ bytes) n refl) (IsUtf8-drop bs n text boundary)),
    )

-- bytes that go on UTF-8 have a content that goes on it; after a backslash, `u` or a high
-- surrogate they are UTF-8 by themselves, and so is their content
abbrev Unescapes : Within → List ℕ → Type 0
Unescapes plain bytes =
    (front : List ℕ) → IsUtf8 (front ++ bytes) →
    IfSome (content plain bytes) (λ text. IsUtf8 (front ++ text))
Unescapes after_backslash bytes = IsUtf8 bytes → IfSome (content after_backslash bytes) IsUtf8
Unescapes after_u bytes = IsUtf8 bytes → IfSome (content after_u bytes) IsUtf8
Unescapes (after_high high) bytes =
    is_high_surrogate high ≡ true → IsUtf8 bytes → IfSome (content (after_high high) bytes) IsUtf8

-- a closing quote, a backslash, or a byte that stands for itself
plain_byte : (byte : ℕ) (bytes : List ℕ) → Unescapes plain bytes →
    Unescapes after_backslash bytes → Unescapes plain (byte ∷ bytes)
unfolding content
plain_byte byte bytes more escaped front text =
    of_test Joined (byte == ascii.quote) (Some []) _
    (λ is. subst IsUtf8 (sym (append-nil front)) (parts ascii.quote (lit< tt) is).0)
    (of_test Joined (byte == ascii.backslash) (content after_backslash bytes) _
    (λ is.
    IfSome_then (content after_backslash bytes) (escaped (parts ascii.backslash (lit< tt) is).1)
    (λ rest valid. IsUtf8-append front rest (parts ascii.backslash (lit< tt) is).0 valid))
    (of_test Joined (nat_lt byte ascii.space) None _ (λ is. tt)
    (of_map (λ rest. IsUtf8 ((front ++ byte ∷ []) ++ rest)) Joined (λ rest. (byte ∷ []) ++ rest)
    (λ rest valid. subst IsUtf8 (append_assoc front (byte ∷ []) rest) valid)
    (content plain bytes)
    (more (front ++ byte ∷ []) (subst IsUtf8 (sym (append_assoc front (byte ∷ []) bytes)) text)))))
  where
    Joined : List ℕ → Type 0
    Joined rest = IsUtf8 (front ++ rest)

    parts : (c : ℕ) → c < 128 → (byte == c) ≡ true → IsUtf8 front × IsUtf8 bytes
    parts c small is = parted front byte bytes (omega (arith, eqb-true byte c is)) text

-- characters, and then the content of what follows
then_more : (front bytes : List ℕ) → IsUtf8 front → IsUtf8 bytes → Unescapes plain bytes →
    IfSome (prepend front (content plain bytes)) IsUtf8
then_more front bytes first text more =
    of_map IsUtf8 IsUtf8 (λ rest. front ++ rest)
    (λ rest valid. IsUtf8-append front rest first valid) (content plain bytes) (more [] text)

-- an escape of one byte stands for an ASCII byte
short_by : (byte from to : ℕ) (later : Option ℕ) → from < 128 → to < 128 →
    IfSome later (λ c. (c < 128) × (byte < 128)) →
    IfSome (cond (byte == from) (Some to) later) (λ c. (c < 128) × (byte < 128))
short_by byte from to later small also =
    of_test (λ c. (c < 128) × (byte < 128)) (byte == from) (Some to) later
    (λ is. (also, omega (arith, eqb-true byte from is)))

short_is_ascii : (byte : ℕ) → IfSome (short_escape byte) (λ c. (c < 128) × (byte < 128))
unfolding short_escape
short_is_ascii byte =
    of_test (λ c. (c < 128) × (byte < 128))
    ((byte == ascii.quote) || (byte == ascii.backslash) || (byte == ascii.slash)) (Some byte) _
    (λ is. (small is, small is))
    (short_by byte ascii.lower_b ascii.backspace _ (lit< tt) (lit< tt)
    (short_by byte ascii.lower_f ascii.form_feed _ (lit< tt) (lit< tt)
    (short_by byte ascii.lower_n ascii.line_feed _ (lit< tt) (lit< tt)
    (short_by byte ascii.lower_r ascii.carriage_return _ (lit< tt) (lit< tt)
    (short_by byte ascii.lower_t ascii.tab None (lit< tt) (lit< tt) tt)))))
  where
    small : ((byte == ascii.quote) || (byte == ascii.backslash) || (byte == ascii.slash)) ≡ true →
        byte < 128
    small is =
        ⊎_elim
        (λ first.
        ⊎_elim (λ is_quote. omega (arith, eqb-true byte ascii.quote is_quote))
        (λ is_backslash. omega (arith, eqb-true byte ascii.backslash is_backslash))
        (or_cases (byte == ascii.quote) (byte == ascii.backslash) first))
        (λ is_slash. omega (arith, eqb-true byte ascii.slash is_slash))
        (or_cases ((byte == ascii.quote) || (byte == ascii.backslash)) (byte == ascii.slash) is)

-- what a backslash stands before
escape_byte : (byte : ℕ) (bytes : List ℕ) → Unescapes plain bytes → Unescapes after_u bytes →
    Unescapes after_backslash (byte ∷ bytes)
unfolding content
escape_byte byte bytes more unit text =
    of_test IsUtf8 (byte == ascii.lower_u) (content after_u bytes) _
    (λ is. unit (after_ascii byte bytes (omega (arith, eqb-true byte ascii.lower_u is)) text))
    (of_step (λ c. (c < 128) × (byte < 128)) IsUtf8 (λ c. prepend (c ∷ []) (content plain bytes))
    (λ c small.
    then_more (c ∷ []) bytes (one_ascii c small.0) (after_ascii byte bytes small.1 text) more)
    (short_escape byte) (short_is_ascii byte))

-- a hexadecimal digit is ASCII
small_digit : (c : ℕ) → digit_value c < 16 → c < 128
small_digit c h = grind (arith, nat_tests)

unit_bound : (p q r s : ℕ) → p < 16 → q < 16 → r < 16 → s < 16 →
    p * 4096 + q * 256 + r * 16 + s < 65536
unit_bound p q r s h i j k = omega arith

-- four digits spell a code unit, and what follows them is UTF-8
after_unit : (a b c d : ℕ) (bytes : List ℕ) → IsUtf8 (a ∷ b ∷ c ∷ d ∷ bytes) →
    IfSome (code_unit a b c d) (λ unit. (unit < 65536) × IsUtf8 bytes)
unfolding code_unit
after_unit a b c d bytes text =
    of_test (λ unit. (unit < 65536) × IsUtf8 bytes)
    (is_digit a 16 && is_digit b 16 && is_digit c 16 && is_digit d 16) (Some _) None
    (λ are.
    let three = and_parts (is_digit a 16 && is_digit b 16 && is_digit c 16) (is_digit d 16) are in
    let two = and_parts (is_digit a 16 && is_digit b 16) (is_digit c 16) three.0 in
    let one = and_parts (is_digit a 16) (is_digit b 16) two.0 in
    let at_a = ltb-true (digit_value a) 16 one.0 in
    let at_b = ltb-true (digit_value b) 16 one.1 in
    let at_c = ltb-true (digit_value c) 16 two.1 in
    let at_d = ltb-true (digit_value d) 16 three.1 in (
      unit_bound (digit_value a) (digit_value b) (digit_value c) (digit_value d) at_a at_b at_c
          at_d,
      after_ascii d bytes (small_digit d at_d)
          (after_ascii c (d ∷ bytes) (small_digit c at_c)
          (after_ascii b (c ∷ d ∷ bytes) (small_digit b at_b)
          (after_ascii a (b ∷ c ∷ d ∷ bytes) (small_digit a at_a) text))),
    ))
    tt

-- a unit that is no surrogate, and a pair of surrogates, are a character
scalar_unit : (unit : ℕ) → unit < 65536 → is_high_surrogate unit ≡ false →
    is_low_surrogate unit ≡ false → IsScalar unit
scalar_unit unit small high low = grind (arith, nat_tests)

scalar_pair : (high low : ℕ) → is_high_surrogate high ≡ true → is_low_surrogate low ≡ true →
    IsScalar (surrogate_pair high low)
scalar_pair high low h l = grind (arith, nat_tests)

-- what follows `u`
unit_bytes : (a b c d : ℕ) (bytes : List ℕ) → Unescapes plain bytes →
    ((high : ℕ) → Unescapes (after_high high) bytes) →
    Unescapes after_u (a ∷ b ∷ c ∷ d ∷ bytes)
unfolding content
unit_bytes a b c d bytes more paired text =
    of_step (λ unit. (unit < 65536) × IsUtf8 bytes) IsUtf8 _
    (λ unit known.
    cond_both (is_high_surrogate unit) (content (after_high unit) bytes) _ (λ o. IfSome o IsUtf8)
    (λ high. paired unit high known.1)
    (λ high.
    cond_both (is_low_surrogate unit) None (prepend (encode_utf8 unit) (content plain bytes))
    (λ o. IfSome o IsUtf8) (λ low. tt)
    (λ low.
    then_more (encode_utf8 unit) bytes
    (IsUtf8-encode unit (scalar_unit unit known.0 high low)) known.1 more)))
    (code_unit a b c d) (after_unit a b c d bytes text)

-- what follows a high surrogate
pair_bytes : (high s u a b c d : ℕ) (bytes : List ℕ) → Unescapes plain bytes →
    Unescapes (after_high high) (s ∷ u ∷ a ∷ b ∷ c ∷ d ∷ bytes)
unfolding content
pair_bytes high s u a b c d bytes more is_high text =
    of_test IsUtf8 ((s == ascii.backslash) && (u == ascii.lower_u)) _ None
    (λ is.
    let tests = and_parts (s == ascii.backslash) (u == ascii.lower_u) is in
    of_step (λ unit. (unit < 65536) × IsUtf8 bytes) IsUtf8 _
    (λ low known.
    of_test IsUtf8 (is_low_surrogate low) _ None
    (λ is_low.
    then_more (encode_utf8 (surrogate_pair high low)) bytes
    (IsUtf8-encode (surrogate_pair high low) (scalar_pair high low is_high is_low)) known.1 more)
    tt)
    (code_unit a b c d)
    (after_unit a b c d bytes
    (after_ascii u (a ∷ b ∷ c ∷ d ∷ bytes) (omega (arith, eqb-true u ascii.lower_u tests.1))
    (after_ascii s (u ∷ a ∷ b ∷ c ∷ d ∷ bytes)
    (omega (arith, eqb-true s ascii.backslash tests.0)) text))))
    tt

unescapes : (within : Within) (bytes : List ℕ) → Unescapes within bytes
unfolding content
unescapes plain [] = λ front text. tt
unescapes plain (byte ∷ bytes) =
    plain_byte byte bytes (unescapes plain bytes) (unescapes after_backslash bytes)
unescapes after_backslash [] = λ text. tt
unescapes after_backslash (byte ∷ bytes) =
    escape_byte byte bytes (unescapes plain bytes) (unescapes after_u bytes)
unescapes after_u [] = λ text. tt
unescapes after_u (a ∷ []) = λ text. tt
unescapes after_u (a ∷ b ∷ []) = λ text. tt
unescapes after_u (a ∷ b ∷ c ∷ []) = λ text. tt
unescapes after_u (a ∷ b ∷ c ∷ d ∷ bytes) =
    unit_bytes a b c d bytes (unescapes plain bytes) (λ high. unescapes (after_high high) bytes)
unescapes (after_high high) [] = λ is text. tt
unescapes (after_high high) (s ∷ []) = λ is text. tt
unescapes (after_high high) (s ∷ u ∷ []) = λ is text. tt
unescapes (after_high high) (s ∷ u ∷ a ∷ []) = λ is text. tt
unescapes (after_high high) (s ∷ u ∷ a ∷ b ∷ []) = λ is text. tt
unescapes (after_high high) (s ∷ u ∷ a ∷ b ∷ c ∷ []) = λ is text. tt
unescapes (after_high high) (s ∷ u ∷ a ∷ b ∷ c ∷ d ∷ bytes) =
    pair_bytes high s u a b c d bytes (unescapes plain bytes)

-- the content of a string whose bytes are UTF-8
pub content_is_utf8 : (bytes : List ℕ) → IsUtf8 bytes → IfSome (content plain bytes) IsUtf8
content_is_utf8 bytes text = unescapes plain bytes [] text
