-- How a text is read, token by token. A fault belongs to the token at which it comes, and depends
-- only on what stands before that token.
use Rattle.std.specs.Prelude.{ℕ, ◌+◌, Bool, true, false, not, ◌&&◌, ◌||◌, List, [], ◌∷◌, ◌++◌}
use Rattle.std.specs.Prelude.{length, is_some, Result, Ok, Err, if◌then◌else◌, nat_lt, nat_le}
use Rattle.cam6_wiring.specs.declared.wirings.Wiring.{Wiring}
use Rattle.cam6_forth.specs.declared.words.SingleWord.{SingleWord}
use Rattle.cam6_forth.specs.declared.words.Word.{Word}
use Rattle.cam6_forth.specs.declared.words.Word.TheVariants as word
use Rattle.cam6_forth.specs.declared.kinds.Kind.{Kind}
use Rattle.cam6_forth.specs.declared.kinds.Kind.TheVariants.{Colon, Semicolon, Open, OpenBrace}
use Rattle.cam6_forth.specs.declared.kinds.Kind.TheVariants.{CloseBrace, If, Else, Then, Other}
use Rattle.cam6_forth.specs.declared.reader.Context.{Context}
use Rattle.cam6_forth.specs.declared.reader.Context.TheVariants.{Outside, Naming, Inside, Braces}
use Rattle.cam6_forth.specs.Tokens.{Token, tokens}
use Rattle.cam6_forth.specs.Kinds.{kind_of, ends_comment}
use Rattle.cam6_forth.specs.Limits.{max_text, max_definitions, max_size}
use Rattle.cam6_forth.specs.Limits.{max_open_ifs, not_definable, out_of_place}
use Rattle.cam6_forth.specs.Limits.{too_large, too_many_ifs, no_definition, too_long}
use Rattle.cam6_forth.specs.Defined.{Defined}
use Rattle.cam6_forth.specs.SingleWords.{word_of, definition_at}

-- what was read: the definitions, where the next token stands, and whether a comment is open. Then
-- the name, the words, the size and the open IFs of the definition that is being read. Each IF has
-- whether its ELSE has come, and the innermost is first
pub record State : Type 0 where
  pub done : List Defined
  pub context : Context
  pub comment : Bool
  pub name : Token
  pub words : List Word
  pub size : ℕ
  pub open_ifs : List Bool

-- before the first token
abbrev pub beginning : State
beginning = record {
  done = [];
  context = Outside;
  comment = false;
  name = [];
  words = [];
  size = 0;
  open_ifs = [];
}

-- one more word, of this size, unless the definition grows too large
abbrev pub grown : ℕ → Word → State → Result State ℕ
grown size added state =
    if nat_le (state.size + size) max_size
    then Ok (record state { size = state.size + size; words = state.words ++ added ∷ [] })
    else Err too_large

-- a word that a token says by itself, with this much more size
abbrev pub grown_by : ℕ → Result (SingleWord × ℕ) ℕ → State → Result State ℕ
grown_by more (Err number) state = Err number
grown_by more (Ok (added, size)) state = grown (size + more) (word.Single added) state

-- outside definitions: `:` begins one, unless it is one too many
abbrev pub outside : State → Kind → Result State ℕ
outside state Colon =
    if nat_lt (length state.done) max_definitions then Ok (record state { context = Naming })
    else Err too_long
outside state Open = Ok (record state { comment = true })
outside state kind = Err out_of_place

-- after `:`, a name that is neither reserved nor defined
abbrev pub naming : State → Kind → Token → Result State ℕ
naming state Other token =
    if is_some (definition_at token state.done) then Err not_definable
    else Ok (record state { context = Inside; name = token; words = []; size = 0; open_ifs = [] })
naming state kind token = Err not_definable

-- IF, unless it is one too many
abbrev pub with_if : State → Result State ℕ
with_if state =
    if nat_lt (length state.open_ifs) max_open_ifs
    then grown 1 word.If (record state { open_ifs = false ∷ state.open_ifs })
    else Err too_many_ifs

-- ELSE, if the innermost open IF has none yet
abbrev pub with_else : List Bool → State → Result State ℕ
with_else (false ∷ outer) state = grown 1 word.Else (record state { open_ifs = true ∷ outer })
with_else open_ifs state = Err out_of_place

-- THEN, if an IF is open
abbrev pub with_then : List Bool → State → Result State ℕ
with_then [] state = Err out_of_place
with_then (has_else ∷ outer) state =
    Ok (record state { words = state.words ++ word.Then ∷ []; open_ifs = outer })

-- the definition that was read
abbrev pub definition_read : State → Defined
definition_read state = record { name = state.name; words = state.words; size = state.size }

-- `;`, if no IF is open
abbrev pub with_definition : List Bool → State → Result State ℕ
with_definition [] state =
    Ok (record state {
      done = state.done ++ definition_read state ∷ [];
      context = Outside;
      name = [];
      words = [];
      size = 0;
    })
with_definition (has_else ∷ outer) state = Err out_of_place

-- in a body
abbrev pub inside : Wiring → State → Kind → Token → Result State ℕ
inside wiring state Semicolon token = with_definition state.open_ifs state
inside wiring state Open token = Ok (record state { comment = true })
inside wiring state If token = with_if state
inside wiring state Else token = with_else state.open_ifs state
inside wiring state Then token = with_then state.open_ifs state
inside wiring state OpenBrace token = grown 1 word.Cases (record state { context = Braces })
inside wiring state kind token = grown_by 0 (word_of wiring state.done kind token) state

-- between braces, where each word has one more than its size
abbrev pub braces : Wiring → State → Kind → Token → Result State ℕ
braces wiring state Open token = Ok (record state { comment = true })
braces wiring state CloseBrace token =
    Ok (record state { context = Inside; words = state.words ++ word.EndCases ∷ [] })
braces wiring state kind token = grown_by 1 (word_of wiring state.done kind token) state

-- a token in this context
abbrev pub step_at : Wiring → Context → State → Kind → Token → Result State ℕ
step_at wiring Outside state kind token = outside state kind
step_at wiring Naming state kind token = naming state kind token
step_at wiring Inside state kind token = inside wiring state kind token
step_at wiring Braces state kind token = braces wiring state kind token

-- one more token, or the number of its fault
abbrev pub advance : Wiring → State → Token → Result State ℕ
advance wiring state token =
    if state.comment then Ok (record state { comment = not (ends_comment token) })
    else step_at wiring state.context state (kind_of token) token

-- at least one definition
abbrev pub some_definition : List Defined → Result (List Defined) ℕ
some_definition [] = Err no_definition
some_definition (first ∷ later) = Ok (first ∷ later)

-- a text may end outside definitions
abbrev pub finish_at : Context → State → Result (List Defined) ℕ
finish_at Outside state = some_definition state.done
finish_at position state = Err out_of_place

-- the definitions at the end of the text, or the number of the end's fault
abbrev pub finish : State → Result (List Defined) ℕ
finish state = if state.comment then Err out_of_place else finish_at state.context state

-- a fault with its token
abbrev pub numbered : Result (List Defined) ℕ → ℕ → Result (List Defined) (ℕ × ℕ)
numbered (Ok done) token_number = Ok done
numbered (Err number) token_number = Err (number, token_number)

-- what follows a token is read, unless the token has a fault
abbrev pub go_on :
    Result State ℕ → ℕ → (State → Result (List Defined) (ℕ × ℕ)) → Result (List Defined) (ℕ × ℕ)
go_on (Ok state) token_number rest = rest state
go_on (Err number) token_number rest = Err (number, token_number)

-- the definitions of tokens that are numbered from here on, or the first fault with its token
abbrev pub read : Wiring → State → ℕ → List Token → Result (List Defined) (ℕ × ℕ)
read wiring state token_number [] = numbered (finish state) token_number
read wiring state token_number (token ∷ later) =
    go_on (advance wiring state token) token_number
    (λ next. read wiring next (token_number + 1) later)

-- a text's definitions, or its first fault with its token
unfoldable pub read_text : Wiring → List ℕ → Result (List Defined) (ℕ × ℕ)
read_text wiring text =
    if nat_lt max_text (length text) then Err (too_long, 0)
    else read wiring beginning 1 (tokens text)

-- the token stands in a definition's body
abbrev pub is_in_body : Context → Bool
is_in_body Outside = false
is_in_body Naming = false
is_in_body Inside = true
is_in_body Braces = true

-- what follows a token without a fault
abbrev pub then_so : Result State ℕ → (State → Bool) → Bool
then_so (Ok state) rest = rest state
then_so (Err number) rest = false

-- a definition's name is among the tokens, before the first that has a fault: from there on
-- something of the text is kept
abbrev pub begins : Wiring → State → List Token → Bool
begins wiring state [] = false
begins wiring state (token ∷ later) =
    then_so (advance wiring state token)
    (λ next. is_in_body next.context || begins wiring next later)

-- something of a text is kept
abbrev pub keeps : Wiring → List ℕ → Bool
keeps wiring text = nat_le (length text) max_text && begins wiring beginning (tokens text)
