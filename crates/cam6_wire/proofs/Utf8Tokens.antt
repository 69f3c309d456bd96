-- The keys and strings among the tokens of UTF-8 bytes are UTF-8.
use Rattle.std.proofs.Common.{◌≡◌, ◌<◌, ◌+◌, ◌-◌, ◌&&◌, ℕ, suc, List, [], ◌∷◌, length, take, drop}
use Rattle.std.proofs.Common.{get_or, nat_eq, Bool, true, false, cond, ◌==◌, Option, Some, None}
use Rattle.std.proofs.Common.{IfSome, IsUtf8, refl, subst, arith, add-one}
use Rattle.std.specs.Prelude.{⊤}
use Rattle.std.specs.List.{AllByRecursion, starts_with}
use Rattle.std.proofs.lemmas.Bool.{eqb-true}
use Rattle.std.proofs.lemmas.Str.{IsUtf8-drop, IsCharBoundary-after_ascii}
use Rattle.json.specs.Ascii as ascii
use Rattle.json.specs.Token.{Token, begin_object, end_object, begin_array, end_array, key, string}
use Rattle.json.specs.Token.{number, boolean, null, bad}
use Rattle.json.specs.Text.{content, plain}
use Rattle.json.specs.Word.{is_operator, is_space, head, ends_word, after_number, number_before}
use Rattle.json.specs.Word.{literal, word}
use Rattle.json.specs.Lex.{Lexeme, token, comma, colon, Class, quote, backslash, operator, space}
use Rattle.json.specs.Lex.{other, class, operator_lexeme, string_token, Mode, between, in_word}
use Rattle.json.specs.Lex.{in_string, in_escape, lex_byte, lex, Place, fresh, after_value}
use Rattle.json.specs.Lex.{after_comma, after_key, begins_colon, may_begin, may_close, if_allowed}
use Rattle.json.specs.Lex.{place_token, punctuate, tokens}
use Rattle.cam6_wire.proofs.Utf8Contents.{content_is_utf8}

-- a token whose key or string, if it is one, is UTF-8
abbrev pub IsTextToken : Token → Type 0
IsTextToken begin_object = ⊤
IsTextToken end_object = ⊤
IsTextToken begin_array = ⊤
IsTextToken end_array = ⊤
IsTextToken (key text) = IsUtf8 text
IsTextToken (string text) = IsUtf8 text
IsTextToken (number digits) = ⊤
IsTextToken (boolean b) = ⊤
IsTextToken null = ⊤
IsTextToken bad = ⊤

abbrev pub AreTextTokens : List Token → Type 0
AreTextTokens ts = AllByRecursion IsTextToken ts

-- the same of tokens among commas and colons
abbrev IsTextLexeme : Lexeme → Type 0
IsTextLexeme (token t) = IsTextToken t
IsTextLexeme comma = ⊤
IsTextLexeme colon = ⊤

abbrev AreTextLexemes : List Lexeme → Type 0
AreTextLexemes ls = AllByRecursion IsTextLexeme ls

either_token : (b : Bool) (t u : Token) → IsTextToken t → IsTextToken u → IsTextToken (cond b t u)
either_token true t u here there = here
either_token false t u here there = there

either_lexeme : (b : Bool) (l k : Lexeme) → IsTextLexeme l → IsTextLexeme k →
    IsTextLexeme (cond b l k)
either_lexeme true l k here there = here
either_lexeme false l k here there = there

a_number : (bytes : List ℕ) (o : Option (List ℕ)) → IsTextToken (number_before bytes o)
a_number bytes None = tt
a_number bytes (Some rest) =
    either_token (ends_word rest) (number (take (length bytes - length rest) bytes)) bad tt tt

a_literal : (name : List ℕ) (t : Token) (bytes : List ℕ) → IsTextToken t →
    IsTextToken (literal name t bytes)
a_literal name t bytes is =
    either_token (starts_with nat_eq bytes name && ends_word (drop (length name) bytes)) t bad is tt

-- a word has no text
a_word : (bytes : List ℕ) → IsTextToken (word bytes)
unfolding word
a_word bytes =
    either_token (head bytes == ascii.lower_t) (literal ascii.true_text (boolean true) bytes) _
    (a_literal ascii.true_text (boolean true) bytes tt)
    (either_token (head bytes == ascii.lower_f) (literal ascii.false_text (boolean false) bytes) _
    (a_literal ascii.false_text (boolean false) bytes tt)
    (either_token (head bytes == ascii.lower_n) (literal ascii.null_text null bytes)
    (number_before bytes (after_number bytes)) (a_literal ascii.null_text null bytes tt)
    (a_number bytes (after_number bytes))))

an_operator : (byte : ℕ) → IsTextLexeme (operator_lexeme byte)
an_operator byte =
    either_lexeme (byte == ascii.open_brace) (token begin_object) _ tt
    (either_lexeme (byte == ascii.close_brace) (token end_object) _ tt
    (either_lexeme (byte == ascii.open_bracket) (token begin_array) _ tt
    (either_lexeme (byte == ascii.close_bracket) (token end_array) _ tt
    (either_lexeme (byte == ascii.comma) comma colon tt tt))))

a_string : (o : Option (List ℕ)) → IfSome o IsUtf8 → IsTextToken (string_token o)
a_string None valid = tt
a_string (Some text) valid = valid

-- a string begins after a quote, in bytes that are UTF-8
a_byte : (mode : Mode) (c : Class) (byte : ℕ) (bytes : List ℕ) (k : Mode → List Lexeme) →
    (c ≡ quote → IsUtf8 bytes) → ((next : Mode) → AreTextLexemes (k next)) →
    AreTextLexemes (lex_byte mode c byte bytes k)
a_byte between quote byte bytes k text more =
    (a_string (content plain bytes) (content_is_utf8 bytes (text refl)), more in_string)
a_byte between backslash byte bytes k text more = (tt, more in_word)
a_byte between operator byte bytes k text more = (an_operator byte, more between)
a_byte between space byte bytes k text more = more between
a_byte between other byte bytes k text more = (a_word (byte ∷ bytes), more in_word)
a_byte in_word quote byte bytes k text more = more in_word
a_byte in_word backslash byte bytes k text more = more in_word
a_byte in_word operator byte bytes k text more = (an_operator byte, more between)
a_byte in_word space byte bytes k text more = more between
a_byte in_word other byte bytes k text more = more in_word
a_byte in_string quote byte bytes k text more = more between
a_byte in_string backslash byte bytes k text more = more in_escape
a_byte in_string operator byte bytes k text more = more in_string
a_byte in_string space byte bytes k text more = more in_string
a_byte in_string other byte bytes k text more = more in_string
a_byte in_escape c byte bytes k text more = more in_string

quote_test : (q b o s : Bool) →
    cond q quote (cond b backslash (cond o operator (cond s space other))) ≡ quote → q ≡ true
quote_test true b o s is = refl
quote_test false true o s is = let never : ⊥ = cc in absurd never
quote_test false false true s is = let never : ⊥ = cc in absurd never
quote_test false false false true is = let never : ⊥ = cc in absurd never
quote_test false false false false is = let never : ⊥ = cc in absurd never

is_quote : (byte : ℕ) → class byte ≡ quote → byte ≡ ascii.quote
is_quote byte is =
    eqb-true byte ascii.quote
    (quote_test (byte == ascii.quote) (byte == ascii.backslash) (is_operator byte) (is_space byte)
    is)

-- what follows each ASCII byte is UTF-8
abbrev EndsInTexts : List ℕ → Type 0
EndsInTexts bytes =
    (i : ℕ) → i < length bytes → get_or bytes i 0 < 128 → IsUtf8 (drop (suc i) bytes)

ends_in_texts : (bytes : List ℕ) → IsUtf8 bytes → EndsInTexts bytes
ends_in_texts bytes text i within small =
    subst (λ n. IsUtf8 (drop n bytes)) (add-one i)
    (IsUtf8-drop bytes (i + 1) text (IsCharBoundary-after_ascii bytes i text within small))

lexemes_are_texts : (mode : Mode) (bytes : List ℕ) → EndsInTexts bytes →
    AreTextLexemes (lex mode bytes)
unfolding lex
lexemes_are_texts mode [] texts = tt
lexemes_are_texts mode (byte ∷ bytes) texts =
    a_byte mode (class byte) byte bytes (λ next. lex next bytes)
    (λ is. texts 0 (omega arith) (omega (arith, is_quote byte is)))
    (λ next. lexemes_are_texts next bytes (λ i within small. texts (suc i) (omega arith) small))

allowed : (b : Bool) (t : Token) (k : Place → List Token) (next : Place) → IsTextToken t →
    ((place : Place) → AreTextTokens (k place)) → AreTextTokens (if_allowed b t k next)
allowed true t k next is more = (is, more next)
allowed false t k next is more = (tt, tt)

placed : (place : Place) (t : Token) (b : Bool) (k : Place → List Token) → IsTextToken t →
    ((next : Place) → AreTextTokens (k next)) → AreTextTokens (place_token place t b k)
placed place begin_object b k is more = allowed (may_begin place) begin_object k fresh tt more
placed place end_object b k is more = allowed (may_close place) end_object k after_value tt more
placed place begin_array b k is more = allowed (may_begin place) begin_array k fresh tt more
placed place end_array b k is more = allowed (may_close place) end_array k after_value tt more
placed place (key text) b k is more = (tt, tt)
placed place (string text) true k is more = allowed (may_begin place) (key text) k after_key is more
placed place (string text) false k is more =
    allowed (may_begin place) (string text) k after_value is more
placed place (number digits) b k is more =
    allowed (may_begin place) (number digits) k after_value tt more
placed place (boolean c) b k is more = allowed (may_begin place) (boolean c) k after_value tt more
placed place null b k is more = allowed (may_begin place) null k after_value tt more
placed place bad b k is more = (tt, tt)

punctuated : (place : Place) (ls : List Lexeme) → AreTextLexemes ls →
    AreTextTokens (punctuate place ls)
unfolding punctuate
punctuated fresh [] are = tt
punctuated after_value [] are = tt
punctuated after_comma [] are = (tt, tt)
punctuated after_key [] are = (tt, tt)
punctuated fresh (token t ∷ ls) are =
    placed fresh t (begins_colon ls) (λ next. punctuate next ls) are.0
    (λ next. punctuated next ls are.1)
punctuated after_value (token t ∷ ls) are =
    placed after_value t (begins_colon ls) (λ next. punctuate next ls) are.0
    (λ next. punctuated next ls are.1)
punctuated after_comma (token t ∷ ls) are =
    placed after_comma t (begins_colon ls) (λ next. punctuate next ls) are.0
    (λ next. punctuated next ls are.1)
punctuated after_key (token t ∷ ls) are =
    placed after_key t (begins_colon ls) (λ next. punctuate next ls) are.0
    (λ next. punctuated next ls are.1)
punctuated fresh (comma ∷ ls) are = (tt, tt)
punctuated after_value (comma ∷ ls) are = punctuated after_comma ls are.1
punctuated after_comma (comma ∷ ls) are = (tt, tt)
punctuated after_key (comma ∷ ls) are = (tt, tt)
punctuated fresh (colon ∷ ls) are = (tt, tt)
punctuated after_value (colon ∷ ls) are = (tt, tt)
punctuated after_comma (colon ∷ ls) are = (tt, tt)
punctuated after_key (colon ∷ ls) are = punctuated fresh ls are.1

pub tokens_are_texts : (bytes : List ℕ) → IsUtf8 bytes → AreTextTokens (tokens bytes)
tokens_are_texts bytes text =
    punctuated fresh (lex between bytes)
    (lexemes_are_texts between bytes (ends_in_texts bytes text))
