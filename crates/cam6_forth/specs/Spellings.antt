-- How the words are spelled: tables of tokens and what they stand for.
use Rattle.std.specs.Prelude.{codes, List, [], ◌∷◌, Option, Some, None, if◌then◌else◌}
use Rattle.std.specs.Option.{option_or}
use Rattle.std.specs.Str.{bytes_eq}
use Rattle.cam6_wiring.specs.declared.names.Compass.TheVariants.{Center, North, South, West}
use Rattle.cam6_wiring.specs.declared.names.Compass.TheVariants.{East, NorthWest, NorthEast}
use Rattle.cam6_wiring.specs.declared.names.Compass.TheVariants.{SouthWest, SouthEast}
use Rattle.cam6_wiring.specs.declared.names.Rotation.TheVariants.{Clockwise, Opposite}
use Rattle.cam6_wiring.specs.declared.names.Rotation.TheVariants.{CounterClockwise}
use Rattle.cam6_wiring.specs.declared.names.Half.TheVariants.{A, B}
use Rattle.cam6_wiring.specs.declared.names.Level.TheVariants as level
use Rattle.cam6_wiring.specs.declared.names.Name.{Name}
use Rattle.cam6_wiring.specs.declared.names.Name.TheVariants.{Beside, InBlock, Phase, Horz}
use Rattle.cam6_wiring.specs.declared.names.Name.TheVariants.{Vert, MinorCenter, MinorPhase}
use Rattle.cam6_wiring.specs.declared.names.Name.TheVariants.{MinorHorz, MinorVert}
use Rattle.cam6_forth.specs.declared.words.StackWord.{StackWord}
use Rattle.cam6_forth.specs.declared.words.StackWord.TheVariants as stack
use Rattle.cam6_forth.specs.declared.words.Target.TheVariants as target
use Rattle.cam6_forth.specs.declared.words.Output.{Output}
use Rattle.cam6_forth.specs.Tokens.{Token}

-- what a table has for a token
abbrev pub found : {T : Type 0} → Token → List (Token × T) → Option T
found token [] = None
found token (row ∷ rows) = if bytes_eq token row.0 then Some row.1 else found token rows

-- the words that work on the stack alone
unfoldable pub stack_word : Token → Option StackWord
stack_word token = found token (
    (codes "DUP", stack.Dup)
    ∷ (codes "DROP", stack.Drop)
    ∷ (codes "SWAP", stack.Swap)
    ∷ (codes "OVER", stack.Over)
    ∷ (codes "ROT", stack.Rot)
    ∷ (codes "+", stack.Plus)
    ∷ (codes "-", stack.Minus)
    ∷ (codes "*", stack.Times)
    ∷ (codes "AND", stack.And)
    ∷ (codes "OR", stack.Or)
    ∷ (codes "XOR", stack.Xor)
    ∷ (codes "0=", stack.IsZero)
    ∷ (codes "=", stack.Equal)
    ∷ (codes "<", stack.Less)
    ∷ (codes ">", stack.Greater)
    ∷ [])

-- the output words of both halves
unfoldable pub output_word : Token → Option Output
output_word token = found token (
    (codes ">PLN0", record { half = A; target = target.Lower })
    ∷ (codes ">PLN1", record { half = A; target = target.Upper })
    ∷ (codes ">PLNA", record { half = A; target = target.Both })
    ∷ (codes ">PLN2", record { half = B; target = target.Lower })
    ∷ (codes ">PLN3", record { half = B; target = target.Upper })
    ∷ (codes ">PLNB", record { half = B; target = target.Both })
    ∷ [])

-- the cell itself and its neighbours, in the half's lower plane
unfoldable pub plain_name : Token → Option Name
plain_name token = found token (
    (codes "CENTER", Beside Center level.Lower)
    ∷ (codes "NORTH", Beside North level.Lower)
    ∷ (codes "SOUTH", Beside South level.Lower)
    ∷ (codes "WEST", Beside West level.Lower)
    ∷ (codes "EAST", Beside East level.Lower)
    ∷ (codes "N.WEST", Beside NorthWest level.Lower)
    ∷ (codes "N.EAST", Beside NorthEast level.Lower)
    ∷ (codes "S.WEST", Beside SouthWest level.Lower)
    ∷ (codes "S.EAST", Beside SouthEast level.Lower)
    ∷ [])

-- the same in its upper plane, where there are four neighbours
unfoldable pub primed_name : Token → Option Name
primed_name token = found token (
    (codes "CENTER'", Beside Center level.Upper)
    ∷ (codes "NORTH'", Beside North level.Upper)
    ∷ (codes "SOUTH'", Beside South level.Upper)
    ∷ (codes "WEST'", Beside West level.Upper)
    ∷ (codes "EAST'", Beside East level.Upper)
    ∷ [])

-- the other cells of the block, in both planes
unfoldable pub block_name : Token → Option Name
block_name token = found token (
    (codes "CW", InBlock Clockwise level.Lower)
    ∷ (codes "CCW", InBlock CounterClockwise level.Lower)
    ∷ (codes "OPP", InBlock Opposite level.Lower)
    ∷ (codes "CW'", InBlock Clockwise level.Upper)
    ∷ (codes "CCW'", InBlock CounterClockwise level.Upper)
    ∷ (codes "OPP'", InBlock Opposite level.Upper)
    ∷ [])

-- what N/MARG-PH and N/MARG-HV add to N/MARG
unfoldable pub added_name : Token → Option Name
added_name token = found token (
    (codes "PHASE", Phase level.Lower)
    ∷ (codes "PHASE'", Phase level.Upper)
    ∷ (codes "HORZ", Horz)
    ∷ (codes "VERT", Vert)
    ∷ [])

-- what the minors show
unfoldable pub minor_name : Token → Option Name
minor_name token = found token (
    (codes "&CENTER", MinorCenter level.Lower)
    ∷ (codes "&CENTER'", MinorCenter level.Upper)
    ∷ (codes "&PHASE", MinorPhase level.Lower)
    ∷ (codes "&PHASE'", MinorPhase level.Upper)
    ∷ (codes "&HORZ", MinorHorz)
    ∷ (codes "&VERT", MinorVert)
    ∷ [])

-- the neighbour names of every hood and minor
unfoldable pub neighbour_name : Token → Option Name
neighbour_name token =
    option_or (option_or (option_or (option_or
    (plain_name token) (primed_name token)) (block_name token)) (added_name token))
    (minor_name token)
