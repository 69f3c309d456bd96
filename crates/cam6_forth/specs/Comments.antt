-- The tokens of a text without its comments. A comment runs from the token `(` to the next token
-- that ends in `)`; right after `:` the token `(` begins none.
use Rattle.std.specs.Prelude.{Bool, true, false, List, [], ◌∷◌, if◌then◌else◌}
use Rattle.cam6_forth.specs.declared.kinds.Kind.{Kind}
use Rattle.cam6_forth.specs.declared.kinds.Kind.TheVariants as kind
use Rattle.cam6_forth.specs.Tokens.{Token}
use Rattle.cam6_forth.specs.Kinds.{kind_of, ends_comment}

-- where a token stands: right after `:`, in a comment, or elsewhere
pub data Mode : Type 0 where
  Plain : Mode
  AfterColon : Mode
  InComment : Mode

-- where the token after one of this kind stands
abbrev pub mode_after_kind : Kind → Mode
mode_after_kind kind.Open = InComment
mode_after_kind kind.Colon = AfterColon
mode_after_kind kind.Semicolon = Plain
mode_after_kind kind.Close = Plain
mode_after_kind kind.OpenBrace = Plain
mode_after_kind kind.CloseBrace = Plain
mode_after_kind kind.If = Plain
mode_after_kind kind.Else = Plain
mode_after_kind kind.Then = Plain
mode_after_kind (kind.Digits value) = Plain
mode_after_kind (kind.Stack word) = Plain
mode_after_kind (kind.Output output) = Plain
mode_after_kind (kind.Name name) = Plain
mode_after_kind kind.Other = Plain

-- where the token after it stands
abbrev pub next_mode : Mode → Token → Mode
next_mode InComment token = if ends_comment token then Plain else InComment
next_mode AfterColon token = Plain
next_mode Plain token = mode_after_kind (kind_of token)

-- whether a comment is open
abbrev pub is_comment : Mode → Bool
is_comment InComment = true
is_comment mode = false

-- the token and those after it, but without the token if it opens a comment or belongs to one
abbrev pub with_token : Mode → Mode → Token → List Token → List Token
with_token InComment next token later = later
with_token mode InComment token later = later
with_token mode next token later = token ∷ later

-- the tokens outside comments
abbrev pub uncommented : Mode → List Token → List Token
uncommented mode [] = []
uncommented mode (token ∷ later) =
    with_token mode (next_mode mode token) token (uncommented (next_mode mode token) later)

-- where a token after these stands
abbrev pub mode_after : Mode → List Token → Mode
mode_after mode [] = mode
mode_after mode (token ∷ later) = mode_after (next_mode mode token) later
