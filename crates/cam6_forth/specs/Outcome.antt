-- What the calls return. If memory runs out, nothing is said of the reading.
use Rattle.std.specs.Prelude.{◌≡◌, ℕ, List, Result, Ok, Err, Vec}
use Rattle.std.specs.declared.alloc.Global.{Global}
use Rattle.cam6_wiring.specs.declared.wirings.Wiring.{Wiring}
use Rattle.cam6_forth.specs.declared.faults.ParseFault.{ParseFault}
use Rattle.cam6_forth.specs.declared.faults.ParseFault.TheVariants as parse_fault
use Rattle.cam6_forth.specs.declared.faults.AdvanceFault.{AdvanceFault}
use Rattle.cam6_forth.specs.declared.faults.AdvanceFault.TheVariants as step_fault
use Rattle.cam6_forth.specs.declared.faults.TokenFault.{TokenFault}
use Rattle.cam6_forth.specs.Limits.{fault_number}
use Rattle.cam6_forth.specs.Defined.{Defined, RuleWords}
use Rattle.cam6_forth.specs.Tree.{Part, rule_of}
use Rattle.cam6_forth.specs.Texts.{IsTextOf}
use Rattle.cam6_forth.specs.Faults.{HasFault}
use Rattle.cam6_forth.specs.Reading.{State}

-- the new state, or the token's fault
abbrev pub Steps : Result State ℕ → State → Result (Unit {0}) AdvanceFault → Type 0
Steps reading new (Ok done) = reading ≡ Ok new
Steps reading new (Err step_fault.NoMemory) = Unit {0}
Steps reading new (Err (step_fault.Token fault)) = reading ≡ Err (fault_number fault)

-- the definitions, or the end's fault
abbrev pub Finishes : Result (List Defined) ℕ → Result (Vec Defined Global) TokenFault → Type 0
Finishes reading (Ok definitions) = reading ≡ Ok definitions.items
Finishes reading (Err fault) = reading ≡ Err (fault_number fault)

-- the rule of this wiring with the definitions that were read, or the first fault
abbrev pub IsReadAs :
    Result (List Defined) (ℕ × ℕ) → Wiring → Result RuleWords ParseFault → Type 0
IsReadAs reading wiring (Ok rule) = (reading ≡ Ok rule.definitions) × (rule.wiring ≡ wiring)
IsReadAs reading wiring (Err parse_fault.NoMemory) = Unit {0}
IsReadAs reading wiring (Err (parse_fault.Text fault)) = reading ≡ Err (fault.number, fault.token)

-- an accepted text is the tree of the rule
abbrev pub IsAccepted : Wiring → List ℕ → Result RuleWords ParseFault → Type 0
IsAccepted wiring text (Ok rule) =
    (parts : List Part) × IsTextOf wiring parts text × (rule ≡ rule_of wiring parts)
IsAccepted wiring text (Err fault) = Unit {0}

-- a refused text has the fault
abbrev pub IsRefused : Wiring → List ℕ → Result RuleWords ParseFault → Type 0
IsRefused wiring text (Err (parse_fault.Text fault)) =
    HasFault wiring text fault.number fault.token
IsRefused wiring text (Err parse_fault.NoMemory) = Unit {0}
IsRefused wiring text (Ok rule) = Unit {0}

-- the result is this rule, unless memory runs out
abbrev pub IsThisRule : RuleWords → Result RuleWords ParseFault → Type 0
IsThisRule rule (Ok given) = given ≡ rule
IsThisRule rule (Err parse_fault.NoMemory) = Unit {0}
IsThisRule rule (Err (parse_fault.Text fault)) = ⊥

-- the result is this fault, unless memory runs out
abbrev pub IsThisFault : ℕ → ℕ → Result RuleWords ParseFault → Type 0
IsThisFault number token_number (Ok given) = ⊥
IsThisFault number token_number (Err parse_fault.NoMemory) = Unit {0}
IsThisFault number token_number (Err (parse_fault.Text fault)) =
    (fault.number ≡ number) × (fault.token ≡ token_number)
