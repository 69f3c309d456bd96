-- What a token says by itself in a body: a word, and by how much it makes the definition grow.
use Rattle.std.specs.Prelude.{◌≡◌, ℕ, ◌+◌, ◌++◌, length, true, List, [], ◌∷◌, max}
use Rattle.std.specs.Prelude.{Option, Some, None, is_some, Result, Ok, Err, if◌then◌else◌}
use Rattle.std.specs.Str.{bytes_eq}
use Rattle.cam6_wiring.specs.declared.wirings.Wiring.{Wiring}
use Rattle.cam6_wiring.specs.Name.{is_same_half}
use Rattle.cam6_wiring.specs.Wiring.{line_of}
use Rattle.cam6_forth.specs.declared.words.SingleWord.{SingleWord}
use Rattle.cam6_forth.specs.declared.words.SingleWord.TheVariants as single
use Rattle.cam6_forth.specs.declared.kinds.Kind.{Kind}
use Rattle.cam6_forth.specs.declared.kinds.Kind.TheVariants.{Digits, Stack, Output, Name, Other}
use Rattle.cam6_forth.specs.Tokens.{Token}
use Rattle.cam6_forth.specs.Spellings.{stack_word, output_word, neighbour_name}
use Rattle.cam6_forth.specs.Kinds.{is_digits, literal}
use Rattle.cam6_forth.specs.Limits.{unknown_word, out_of_place, wrong_output, literal_range}
use Rattle.cam6_forth.specs.Defined.{Defined}

-- the position of a name among definitions that are counted from a position on, and its
-- definition's size
abbrev pub position_from : ℕ → Token → List Defined → Option (ℕ × ℕ)
position_from position name [] = None
position_from position name (definition ∷ later) =
    if bytes_eq definition.name name then Some (position, definition.size)
    else position_from (position + 1) name later

-- the position of a name among the definitions, and its definition's size
abbrev pub definition_at : Token → List Defined → Option (ℕ × ℕ)
definition_at name done = position_from 0 name done

-- a literal has size 1, and a value of at most 65,535
abbrev pub literal_word : Option ℕ → Result (SingleWord × ℕ) ℕ
literal_word None = Err literal_range
literal_word (Some value) = Ok (single.Literal value, 1)

-- a defined name has its definition's size, or 1 if that is 0
abbrev pub defined_word : Option (ℕ × ℕ) → Result (SingleWord × ℕ) ℕ
defined_word None = Err unknown_word
defined_word (Some (position, size)) = Ok (single.Defined position, max size 1)

-- the word that a token says by itself, with its size, or the number of the token's fault
abbrev pub word_of : Wiring → List Defined → Kind → Token → Result (SingleWord × ℕ) ℕ
word_of wiring done (Digits value) token = literal_word value
word_of wiring done (Stack stack) token = Ok (single.Stack stack, 1)
word_of wiring done (Output output) token =
    if is_same_half output.half wiring.half then Ok (single.Output output.target, 1)
    else Err wrong_output
word_of wiring done (Name name) token =
    if is_some (line_of wiring.hood wiring.minor name) then Ok (single.Name name, 1)
    else Err unknown_word
word_of wiring done Other token = defined_word (definition_at token done)
word_of wiring done kind token = Err out_of_place

-- a token says this single word, of this size. A literal in range says its value. A stack word, an
-- output word of the half and a neighbour name of the wiring say what the tables of spellings have.
-- Each has size 1. A name says the first definition of that name, and has its size, or 1 if that
-- is 0
abbrev pub IsSingle : Wiring → List Defined → Token → SingleWord → ℕ → Type 0
IsSingle wiring done token (single.Literal value) size =
    (is_digits token ≡ true) × (literal token ≡ Some value) × (size ≡ 1)
IsSingle wiring done token (single.Name name) size =
    (neighbour_name token ≡ Some name)
    × ((line : ℕ) × (line_of wiring.hood wiring.minor name ≡ Some line)) × (size ≡ 1)
IsSingle wiring done token (single.Stack stack) size =
    (stack_word token ≡ Some stack) × (size ≡ 1)
IsSingle wiring done token (single.Output target) size =
    (output_word token ≡ Some (record { half = wiring.half; target = target })) × (size ≡ 1)
IsSingle wiring done token (single.Defined position) size =
    (before : List Defined) × (definition : Defined) × (later : List Defined)
    × (done ≡ before ++ definition ∷ later) × (position ≡ length before)
    × (definition.name ≡ token) × (definition_at token before ≡ None)
    × (size ≡ max definition.size 1)
