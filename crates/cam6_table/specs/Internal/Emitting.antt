-- How a rule becomes flat code, from the last of its words to the first. So what a jump leads over
-- is there before the jump.
use Rattle.std.specs.Prelude.{ℕ, ◌+◌, ◌-◌, ◌<◌, List, [], ◌∷◌, ◌++◌, length, ⊤}
use Rattle.std.specs.Prelude.{Option, Some, None, slice_index_or}
use Rattle.cam6_wiring.specs.declared.wirings.Wiring.{Wiring}
use Rattle.cam6_wiring.specs.Wiring.{line_of}
use Rattle.cam6_forth.specs.Defined.{Defined}
use Rattle.cam6_forth.specs.declared.words.SingleWord.{SingleWord}
use Rattle.cam6_forth.specs.declared.words.SingleWord.TheVariants as single
use Rattle.cam6_forth.specs.declared.words.Word.{Word}
use Rattle.cam6_forth.specs.declared.words.Word.TheVariants as word
use Rattle.cam6_table.specs.declared.codes.Instruction.{Instruction}
use Rattle.cam6_table.specs.declared.codes.Instruction.TheVariants.{Literal, Line, Stack}
use Rattle.cam6_table.specs.declared.codes.Instruction.TheVariants.{Output, SkipIfZero}
use Rattle.cam6_table.specs.declared.codes.Instruction.TheVariants.{Skip, Case, CaseWord}
use Rattle.cam6_table.specs.declared.emitter.OpenCase.{OpenCase}

-- instructions in a row
abbrev pub Instructions : Type 0
Instructions = List Instruction

-- code that is written from its end to its start: the instructions so far; for each open IF, the
-- innermost first, how many there are from its target on; and the open case
pub record Emitted : Type 0 where
  pub code : Instructions
  pub landings : List ℕ
  pub case : Option OpenCase

abbrev pub nothing : Emitted
nothing = record { code = []; landings = []; case = None }

-- the code at a position
abbrev pub code_at : List Instructions → ℕ → Instructions
code_at codes position = slice_index_or codes position []

-- a name becomes its line
abbrev pub line_code : Option ℕ → Instructions
line_code None = []
line_code (Some line) = Line line ∷ []

-- a single word; a defined name becomes its definition's code
abbrev pub word_code : Wiring → List Instructions → SingleWord → Instructions
word_code wiring codes (single.Literal v) = Literal v ∷ []
word_code wiring codes (single.Name name) = line_code (line_of wiring.hood wiring.minor name)
word_code wiring codes (single.Stack stack) = Stack stack ∷ []
word_code wiring codes (single.Output target) = Output target ∷ []
word_code wiring codes (single.Defined position) = code_at codes position

abbrev pub emit_then : Emitted → Emitted
emit_then e = record e { landings = length e.code ∷ e.landings }

abbrev pub emit_else : List ℕ → Emitted → Emitted
emit_else [] e = e
emit_else (landing ∷ outer) e =
    record e { code = Skip (length e.code - landing) ∷ e.code; landings = length e.code ∷ outer }

abbrev pub emit_if : List ℕ → Emitted → Emitted
emit_if [] e = e
emit_if (landing ∷ outer) e =
    record e { code = SkipIfZero (length e.code - landing) ∷ e.code; landings = outer }

abbrev pub emit_end_cases : Emitted → Emitted
emit_end_cases e = record e { case = Some (record { end = length e.code; count = 0 }) }

abbrev pub emit_cases : Option OpenCase → Emitted → Emitted
emit_cases None e = e
emit_cases (Some case) e = record e { code = Case case.count ∷ e.code; case = None }

-- a word of a case gets a head, with the word's length and that of the rest of the case
abbrev pub with_head : OpenCase → Instructions → Emitted → Emitted
with_head case code e = record e {
  code = CaseWord (length code - length e.code) (length code - case.end) ∷ code;
  case = Some (record case { count = case.count + 1 });
}

abbrev pub emit_word : Option OpenCase → Instructions → Emitted → Emitted
emit_word None code e = record e { code = code ++ e.code }
emit_word (Some case) code e = with_head case (code ++ e.code) e

-- one more word in front
abbrev pub emit : Wiring → List Instructions → Word → Emitted → Emitted
emit wiring codes (word.Single said) e = emit_word e.case (word_code wiring codes said) e
emit wiring codes word.Then e = emit_then e
emit wiring codes word.Else e = emit_else e.landings e
emit wiring codes word.If e = emit_if e.landings e
emit wiring codes word.EndCases e = emit_end_cases e
emit wiring codes word.Cases e = emit_cases e.case e

abbrev pub emit_all : Wiring → List Instructions → List Word → Emitted → Emitted
emit_all wiring codes [] e = e
emit_all wiring codes (said ∷ later) e = emit wiring codes said (emit_all wiring codes later e)

-- the code of words in a row
abbrev pub words_code : Wiring → List Instructions → List Word → Instructions
words_code wiring codes words = (emit_all wiring codes words nothing).code

-- the codes of definitions, each by those before it
abbrev pub all_codes : Wiring → List Instructions → List Defined → List Instructions
all_codes wiring codes [] = codes
all_codes wiring codes (definition ∷ later) =
    all_codes wiring (codes ++ words_code wiring codes definition.words ∷ []) later

-- a line, or an open case, is there
abbrev pub IsThere : {A : Type 0} → Option A → Type 0
IsThere None = ⊥
IsThere (Some a) = ⊤

-- an IF is open
abbrev pub IsOpen : List ℕ → Type 0
IsOpen [] = ⊥
IsOpen (landing ∷ outer) = ⊤

-- a name has a line, and a definition a code
abbrev pub HasCode : Wiring → List Instructions → SingleWord → Type 0
HasCode wiring codes (single.Literal v) = ⊤
HasCode wiring codes (single.Name name) = IsThere (line_of wiring.hood wiring.minor name)
HasCode wiring codes (single.Stack stack) = ⊤
HasCode wiring codes (single.Output target) = ⊤
HasCode wiring codes (single.Defined position) = position < length codes

-- what a word needs of what stands after it: IF and ELSE an end, a case its words
abbrev pub HasIts : Wiring → List Instructions → Word → Emitted → Type 0
HasIts wiring codes (word.Single said) e = HasCode wiring codes said
HasIts wiring codes word.Then e = ⊤
HasIts wiring codes word.Else e = IsOpen e.landings
HasIts wiring codes word.If e = IsOpen e.landings
HasIts wiring codes word.EndCases e = ⊤
HasIts wiring codes word.Cases e = IsThere e.case

-- each of words in a row has what it needs
abbrev pub HaveTheirs : Wiring → List Instructions → List Word → Emitted → Type 0
HaveTheirs wiring codes [] e = ⊤
HaveTheirs wiring codes (said ∷ later) e =
    HasIts wiring codes said (emit_all wiring codes later e) × HaveTheirs wiring codes later e

-- and so do those of each definition
abbrev pub AllHaveTheirs : Wiring → List Instructions → List Defined → Type 0
AllHaveTheirs wiring codes [] = ⊤
AllHaveTheirs wiring codes (definition ∷ later) =
    HaveTheirs wiring codes definition.words nothing
    × AllHaveTheirs wiring (codes ++ words_code wiring codes definition.words ∷ []) later
