-- What a rule means, by recursion on its tree. The bits that its names mean are a function, so that
-- one definition serves an address and a cell.
use Rattle.std.specs.Prelude.{ℕ, zero, suc, ◌-◌, List, [], ◌∷◌, ◌++◌, length, Result, Ok, Err}
use Rattle.cam6_planes.specs.Row.{bit_number}
use Rattle.cam6_wiring.specs.Seen.{Sees, environment}
use Rattle.cam6_wiring.specs.declared.wirings.Wiring.{Wiring}
use Rattle.cam6_wiring.specs.declared.names.Name.TheVariants.{Beside}
use Rattle.cam6_wiring.specs.declared.names.Compass.TheVariants.{Center}
use Rattle.cam6_wiring.specs.declared.names.Level.TheVariants.{Lower, Upper}
use Rattle.cam6_forth.specs.Tokens.{Token}
use Rattle.cam6_forth.specs.Defined.{Defined}
use Rattle.cam6_forth.specs.Tree.{Body, End, Says, Choice, Either, Cases, Part, word_at, defined}
use Rattle.cam6_forth.specs.declared.words.SingleWord.{SingleWord}
use Rattle.cam6_forth.specs.declared.words.SingleWord.TheVariants as single
use Rattle.cam6_table.specs.declared.faults.RuleFault.{RuleFault}
use Rattle.cam6_table.specs.declared.faults.RuleFault.TheVariants.{MissingValue, CaseIndex}
use Rattle.cam6_table.specs.declared.outputs.State.{State}
use Rattle.cam6_table.specs.Words.{Values, pushed, on_stack}
use Rattle.cam6_table.specs.Outputs.{untouched, written, entry_of}

-- what words make of a state: another one, or the first fault
abbrev pub Meaning : Type 0
Meaning = State → Result State RuleFault

-- what comes next, unless there was a fault
abbrev pub then_do :
    {A B : Type 0} → Result A RuleFault → (A → Result B RuleFault) → Result B RuleFault
then_do (Ok a) next = next a
then_do (Err fault) next = Err fault

-- a state with another stack
abbrev pub with_stack : State → Result Values RuleFault → Result State RuleFault
with_stack s (Ok values) = Ok (record s { stack = values })
with_stack s (Err fault) = Err fault

-- what comes next, from the top value and the state without it
abbrev pub with_top :
    {A : Type 0} → Values → State → (ℕ → State → Result A RuleFault) → Result A RuleFault
with_top [] s next = Err MissingValue
with_top (v ∷ rest) s next = next v (record s { stack = rest })

-- the first if the value is 0, and else the second
abbrev pub at_zero : {A : Type 0} → ℕ → A → A → A
at_zero zero a b = a
at_zero (suc v) a b = b

-- the meaning at a position
abbrev pub meaning_at : List Meaning → ℕ → Meaning
meaning_at [] position = Ok
meaning_at (first ∷ later) zero = first
meaning_at (first ∷ later) (suc position) = meaning_at later position

-- a single word; a defined name means what its definition means
abbrev pub word_means : Sees → List Meaning → SingleWord → Meaning
word_means sees done (single.Literal v) s = with_stack s (pushed v s.stack)
word_means sees done (single.Name name) s = with_stack s (pushed (bit_number (sees name)) s.stack)
word_means sees done (single.Stack stack) s = with_stack s (on_stack stack s.stack)
word_means sees done (single.Output target) s = written target s
word_means sees done (single.Defined position) s = meaning_at done position s

-- what a token means; one that says no word means nothing
abbrev pub token_means : Sees → List Meaning → Result (SingleWord × ℕ) ℕ → Meaning
token_means sees done (Ok (said, size)) s = word_means sees done said s
token_means sees done (Err number) s = Ok s

-- the word of a case with this index, counted from 0
abbrev pub case_means : Sees → Wiring → List Defined → List Meaning → List Token → ℕ → Meaning
case_means sees wiring known done [] i s = Err CaseIndex
case_means sees wiring known done (token ∷ tokens) zero s =
    token_means sees done (word_at wiring known token) s
case_means sees wiring known done (token ∷ tokens) (suc i) s =
    case_means sees wiring known done tokens i s

-- a body, after these definitions and their meanings
abbrev pub means : Sees → Wiring → List Defined → List Meaning → Body → Meaning
means sees wiring known done End s = Ok s
means sees wiring known done (Says token rest) s =
    then_do (token_means sees done (word_at wiring known token) s)
    (means sees wiring known done rest)
means sees wiring known done (Choice on rest) s =
    with_top s.stack s (λ v below.
    then_do (at_zero v (Ok below) (means sees wiring known done on below))
    (means sees wiring known done rest))
means sees wiring known done (Either on off rest) s =
    with_top s.stack s (λ v below.
    then_do (at_zero v
    (means sees wiring known done off below) (means sees wiring known done on below))
    (means sees wiring known done rest))
means sees wiring known done (Cases words rest) s =
    with_top s.stack s (λ i below.
    then_do (case_means sees wiring known done words i below)
    (means sees wiring known done rest))

-- the meanings of definitions, each by those before it
abbrev pub meanings : Sees → Wiring → List Defined → List Meaning → List Part → List Meaning
meanings sees wiring known done [] = done
meanings sees wiring known done (part ∷ parts) =
    meanings sees wiring (known ++ defined wiring known part ∷ [])
    (done ++ means sees wiring known done part.body ∷ []) parts

-- the last definition is the rule
abbrev pub last_meaning : List Meaning → Meaning
last_meaning all = meaning_at all (length all - 1)

-- the two new bits; a plane that isn't written keeps its centre
abbrev pub entry_in : Sees → Result State RuleFault → Result ℕ RuleFault
entry_in sees (Ok s) = Ok (entry_of (sees (Beside Center Lower)) (sees (Beside Center Upper)) s)
entry_in sees (Err fault) = Err fault

-- a rule as a function of what its names mean: the two new bits, or the first fault
unfoldable pub meaning : Wiring → List Part → Sees → Result ℕ RuleFault
meaning wiring parts sees =
    entry_in sees (last_meaning (meanings sees wiring [] [] parts) untouched)

-- a rule at an address; a line without a name is ignored
abbrev pub at_address : Wiring → List Part → ℕ → Result ℕ RuleFault
at_address wiring parts address =
    meaning wiring parts (environment wiring.hood wiring.minor address)
