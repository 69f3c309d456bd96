-- What flat code does, instruction by instruction. Jumps only lead forward.
use Rattle.std.specs.Prelude.{◌≡◌, MatchResult, ℕ, zero, suc, ◌-◌, drop, length, ◌/◌, Bool, List}
use Rattle.std.specs.Prelude.{[], ◌∷◌, Option, Some, None, Result, Ok, Err, nat_lt, if◌then◌else◌}
use Rattle.cam6_planes.specs.Row.{bit_number}
use Rattle.cam6_wiring.specs.Seen.{shown}
use Rattle.cam6_forth.specs.Defined.{RuleWords}
use Rattle.cam6_forth.specs.Tree.{Part, IsRule, rule_of}
use Rattle.cam6_table.specs.declared.codes.Instruction.{Instruction}
use Rattle.cam6_table.specs.declared.codes.Instruction.TheVariants.{Literal, Line, Stack}
use Rattle.cam6_table.specs.declared.codes.Instruction.TheVariants.{Output, SkipIfZero}
use Rattle.cam6_table.specs.declared.codes.Instruction.TheVariants.{Skip, Case, CaseWord}
use Rattle.cam6_table.specs.declared.evaluation.Next.{Next}
use Rattle.cam6_table.specs.declared.faults.RuleFault.{RuleFault}
use Rattle.cam6_table.specs.declared.faults.RuleFault.TheVariants.{CaseIndex}
use Rattle.cam6_table.specs.declared.outputs.State.{State}
use Rattle.cam6_table.specs.Words.{pushed, on_stack}
use Rattle.cam6_entries.specs.NewBits.{is_odd}
use Rattle.cam6_table.specs.Outputs.{untouched, written, entry_of}
use Rattle.cam6_table.specs.Meaning.{then_do, with_stack, with_top, at_zero, at_address}

-- the last instructions, this many
abbrev pub last_of : ℕ → List Instruction → List Instruction
last_of remaining code = drop (length code - remaining) code

-- the bits on the address lines
abbrev pub Lines : Type 0
Lines = ℕ → Bool

-- passes this many instructions, and looks for this word of a case, if for any
abbrev pub go : ℕ → Option ℕ → Next
go passed index = record { passed = passed; word = index }

-- goes on at the next instruction
abbrev pub goes_on : Result State RuleFault → Result (State × Next) RuleFault
goes_on said = then_do said (λ s. Ok (s, go 0 None))

-- the head of a case's word: the word is done if it is the one looked for, and else passed. After
-- another word of the case was done, the rest of the case is passed
abbrev pub at_head : Option ℕ → ℕ → ℕ → Next
at_head None length after = go after None
at_head (Some zero) length after = go 0 None
at_head (Some (suc i)) length after = go length (Some i)

-- what an instruction makes of a state, and how the code goes on
abbrev pub act : Lines → Option ℕ → Instruction → State → Result (State × Next) RuleFault
act shows index (Literal v) s = goes_on (with_stack s (pushed v s.stack))
act shows index (Line line) s = goes_on (with_stack s (pushed (bit_number (shows line)) s.stack))
act shows index (Stack word) s = goes_on (with_stack s (on_stack word s.stack))
act shows index (Output target) s = goes_on (written target s)
act shows index (SkipIfZero n) s =
    with_top s.stack s (λ v below. Ok (below, go (at_zero v n 0) None))
act shows index (Skip n) s = Ok (s, go n None)
act shows index (Case count) s =
    with_top s.stack s (λ i below.
    if nat_lt i count then Ok (below, go 0 (Some i)) else Err CaseIndex)
act shows index (CaseWord length after) s = Ok (s, at_head index length after)

-- what code does after it passes this many instructions, and while it looks for this word of a case
abbrev pub exec : Lines → List Instruction → ℕ → Option ℕ → State → Result State RuleFault
exec shows [] passed index s = Ok s
exec shows (instruction ∷ code) (suc passed) index s = exec shows code passed index s
exec shows (instruction ∷ code) zero index s =
    then_do (act shows index instruction s)
    (λ done. exec shows code done.1.passed done.1.word done.0)

-- how many instructions follow, or none after a fault
abbrev pub steps_after : Result (State × Next) RuleFault → (State × Next → ℕ) → ℕ
steps_after (Ok done) steps = steps done
steps_after (Err fault) steps = 0

-- how many instructions it does
abbrev pub steps_of : Lines → List Instruction → ℕ → Option ℕ → State → ℕ
steps_of shows [] passed index s = 0
steps_of shows (instruction ∷ code) (suc passed) index s = steps_of shows code passed index s
steps_of shows (instruction ∷ code) zero index s =
    suc (steps_after (act shows index instruction s)
    (λ done. steps_of shows code done.1.passed done.1.word done.0))

-- the two new bits at the end; a plane that isn't written keeps its centre, on line 0 or 1
abbrev pub entry_at : ℕ → Result State RuleFault → Result ℕ RuleFault
entry_at address (Ok s) = Ok (entry_of (is_odd address) (is_odd (address / 2)) s)
entry_at address (Err fault) = Err fault

-- the code's result at an address
abbrev pub result_at : List Instruction → ℕ → Result ℕ RuleFault
result_at code address = entry_at address (exec (shown address) code 0 None untouched)

-- how many instructions it does there
abbrev pub steps_at : List Instruction → ℕ → ℕ
steps_at code address = steps_of (shown address) code 0 None untouched

-- the code of a rule: at each address its result is what the rule means there, by any tree of the
-- rule
abbrev pub IsCodeOf : List Instruction → RuleWords → Type 0
IsCodeOf code rule =
    (parts : List Part) → IsRule rule.wiring parts → rule ≡ rule_of rule.wiring parts →
    (address : ℕ) → result_at code address ≡ at_address rule.wiring parts address

-- a call did what was said: the new state and how the code goes on, or the fault
abbrev pub Acts : Result (State × Next) RuleFault → State → Result Next RuleFault → Type 0
Acts said new result =
    MatchResult result (λ next. said ≡ Ok (new, next)) (λ fault. said ≡ Err fault)
