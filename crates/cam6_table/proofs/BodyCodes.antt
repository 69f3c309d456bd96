-- The code of a tree, body by body, and what it is for code to do what is meant.
use Rattle.std.proofs.Common.{◌≡◌, ℕ, ◌+◌, List, [], ◌∷◌, ◌++◌, length, Some, None, Result, Ok, Err}
use Rattle.cam6_wiring.specs.Seen.{Sees}
use Rattle.cam6_wiring.specs.Wiring.{line_of}
use Rattle.cam6_wiring.specs.declared.wirings.Wiring.{Wiring}
use Rattle.cam6_wiring.specs.declared.names.Name.{Name}
use Rattle.cam6_forth.specs.declared.words.SingleWord.{SingleWord}
use Rattle.cam6_forth.specs.Tokens.{Token}
use Rattle.cam6_forth.specs.Defined.{Defined}
use Rattle.cam6_forth.specs.Tree.{Body, End, Says, Choice, Either, Cases, Part, word_at, defined}
use Rattle.cam6_table.specs.declared.codes.Instruction.TheVariants.{SkipIfZero, Skip}
use Rattle.cam6_table.specs.declared.codes.Instruction.TheVariants.{Case, CaseWord}
use Rattle.cam6_table.specs.declared.outputs.State.{State}
use Rattle.cam6_table.specs.Meaning.{Meaning, then_do, meaning_at}
use Rattle.cam6_table.specs.Codes.{Lines, exec}
use Rattle.cam6_table.specs.Internal.Emitting.{Instructions, word_code, code_at}

-- the code of the word that a token says, if it says one
abbrev pub said_code : Wiring → List Instructions → Result (SingleWord × ℕ) ℕ → Instructions
said_code wiring codes (Ok (said, size)) = word_code wiring codes said
said_code wiring codes (Err number) = []

-- the code of a token
abbrev pub token_code : Wiring → List Defined → List Instructions → Token → Instructions
token_code wiring known codes token = said_code wiring codes (word_at wiring known token)

-- the words of a case, each with its head
abbrev pub case_code : Wiring → List Defined → List Instructions → List Token → Instructions
case_code wiring known codes [] = []
case_code wiring known codes (token ∷ tokens) =
    CaseWord (length (token_code wiring known codes token))
    (length (token_code wiring known codes token) + length (case_code wiring known codes tokens))
    ∷ (token_code wiring known codes token ++ case_code wiring known codes tokens)

-- the code of a body
abbrev pub body_code : Wiring → List Defined → List Instructions → Body → Instructions
body_code wiring known codes End = []
body_code wiring known codes (Says token rest) =
    token_code wiring known codes token ++ body_code wiring known codes rest
body_code wiring known codes (Choice on rest) =
    SkipIfZero (length (body_code wiring known codes on))
    ∷ (body_code wiring known codes on ++ body_code wiring known codes rest)
body_code wiring known codes (Either on off rest) =
    SkipIfZero (length (body_code wiring known codes on) + 1)
    ∷ (body_code wiring known codes on
    ++ (Skip (length (body_code wiring known codes off))
    ∷ (body_code wiring known codes off ++ body_code wiring known codes rest)))
body_code wiring known codes (Cases words rest) =
    Case (length words) ∷ (case_code wiring known codes words ++ body_code wiring known codes rest)

-- the codes of definitions, each by those before it
abbrev pub tree_codes : Wiring → List Defined → List Instructions → List Part → List Instructions
tree_codes wiring known codes [] = codes
tree_codes wiring known codes (part ∷ parts) =
    tree_codes wiring (known ++ defined wiring known part ∷ [])
    (codes ++ body_code wiring known codes part.body ∷ []) parts

-- the code does the meaning, and then what follows it
abbrev pub IsCode : Lines → Instructions → Meaning → Type 0
IsCode shows code meaning =
    (later : Instructions) (s : State) →
    exec shows (code ++ later) 0 None s ≡ then_do (meaning s) (exec shows later 0 None)

-- each definition's code does what the definition means
abbrev pub AreCodes : Lines → List Instructions → List Meaning → Type 0
AreCodes shows codes meanings =
    (position : ℕ) → IsCode shows (code_at codes position) (meaning_at meanings position)

-- lines and names show the same
abbrev pub Agree : Wiring → Sees → Lines → Type 0
Agree wiring sees shows =
    (name : Name) (line : ℕ) → line_of wiring.hood wiring.minor name ≡ Some line →
    shows line ≡ sees name
