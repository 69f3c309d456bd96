-- A line, its JSON value, and what they say.
use Rattle.std.proofs.Common.{◌≡◌, ◌<◌, ◌∙◌, ℕ, List, [], ◌∷◌, length, Bool, true, false, cond, Option}
use Rattle.std.proofs.Common.{Some, None, option_and_then, refl, ap, arith, IsUtf8}
use Rattle.std.proofs.lemmas.Str.{is_utf8-from_IsUtf8, IsUtf8-from_is_utf8}
use Rattle.std.specs.Str.{is_utf8}
use Rattle.serde_json.specs.Data.{Data}
use Rattle.serde_json.specs.Read.{read}
use Rattle.serde_json.proofs.OnLiterals.{serde_json_on_literals}
use Rattle.cam6_show_frames.specs.LineValue.{value_of}
use Rattle.cam6_show_frames.specs.Replies.{said, said_in}

-- the value of a line of text
pub value_found : (line : List ℕ) (d : Data) → IsUtf8 line → read line ≡ Some d
    → value_of line ≡ Some d
value_found line d text is =
    ap (λ b. cond b (read line) None) (is_utf8-from_IsUtf8 line text) ∙ is

-- a line that is no JSON has none
pub no_value : (line : List ℕ) → (IsUtf8 line → read line ≡ None) → value_of line ≡ None
no_value line none = unless (is_utf8 line) refl
  where
    unless : (b : Bool) → is_utf8 line ≡ b → cond b (read line) None ≡ None
    unless false is = refl
    unless true is = none (IsUtf8-from_is_utf8 line is)

by_text : (valid : Bool) (value : Option Data) → cond valid (option_and_then said_in value) None
    ≡ option_and_then said_in (cond valid value None)
by_text true value = refl
by_text false value = refl

-- a line says what its value does
pub said_by_value : (line : List ℕ) → said line ≡ option_and_then said_in (value_of line)
unfolding said
said_by_value line = by_text (is_utf8 line) (read line)

read_text : (valid : Bool) (value : Option Data) (d : Data) → cond valid value None ≡ Some d
    → value ≡ Some d
read_text true value d is = is
read_text false value d is = let never : ⊥ = cc in absurd never

some_byte : (line : List ℕ) (d : Data) → read line ≡ Some d → 0 < length line
unfolding serde_json_on_literals
some_byte [] d is = absurd (cc is)
some_byte (byte ∷ bytes) d is = omega arith

-- a line with a value isn't empty
pub not_empty : (line : List ℕ) (d : Data) → value_of line ≡ Some d → 0 < length line
not_empty line d is = some_byte line d (read_text (is_utf8 line) (read line) d is)
