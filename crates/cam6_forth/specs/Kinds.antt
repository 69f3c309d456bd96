-- What a token is, wherever it stands.
use Rattle.std.specs.Prelude.{slice_index, length, ◌-◌, ◌+◌, ◌*◌, ℕ, Bool, [], ◌∷◌, ◌==◌}
use Rattle.std.specs.Prelude.{◌&&◌, nat_le, codes, Option, Some, None, if◌then◌else◌}
use Rattle.std.specs.Option.{option_map, option_or, unwrap_or}
use Rattle.std.specs.List.{list_all}
use Rattle.std.specs.Char.{is_ascii_digit}
use Rattle.cam6_forth.specs.declared.kinds.Kind.{Kind}
use Rattle.cam6_forth.specs.declared.kinds.Kind.TheVariants as kind
use Rattle.cam6_forth.specs.Limits.{max_literal}
use Rattle.cam6_forth.specs.Tokens.{Token, is_filled}
use Rattle.cam6_forth.specs.Spellings.{found, stack_word, output_word, neighbour_name}

-- the tokens that shape a text
unfoldable pub mark : Token → Option Kind
mark token = found token (
    (codes ":", kind.Colon)
    ∷ (codes ";", kind.Semicolon)
    ∷ (codes "(", kind.Open)
    ∷ (codes ")", kind.Close)
    ∷ (codes "{", kind.OpenBrace)
    ∷ (codes "}", kind.CloseBrace)
    ∷ (codes "IF", kind.If)
    ∷ (codes "ELSE", kind.Else)
    ∷ (codes "THEN", kind.Then)
    ∷ [])

-- decimal digits alone
abbrev pub is_digits : Token → Bool
is_digits token = is_filled token && list_all is_ascii_digit token

-- the value of decimal digits that stand after a value
abbrev pub value_from : ℕ → Token → ℕ
value_from value [] = value
value_from value (digit ∷ digits) = value_from (value * 10 + (digit - 48)) digits

-- a literal's value, unless it is above the largest
unfoldable pub literal : Token → Option ℕ
literal token = if nat_le (value_from 0 token) max_literal then Some (value_from 0 token) else None

-- the tokens that are reserved, except digits
abbrev pub reserved_kind : Token → Option Kind
reserved_kind token =
    option_or (mark token)
    (option_or (option_map kind.Stack (stack_word token))
    (option_or (option_map kind.Output (output_word token))
    (option_map kind.Name (neighbour_name token))))

-- what a token is: reserved, digits, or a name that may be defined
unfoldable pub kind_of : Token → Kind
kind_of token =
    unwrap_or (reserved_kind token)
    (if is_digits token then kind.Digits (literal token) else kind.Other)

-- a comment ends at a token that ends in `)`
abbrev pub ends_comment : Token → Bool
ends_comment token = slice_index token (length token - 1) == 41
