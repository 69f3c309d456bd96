-- What is wrong in the text of a rule, and when it is compiled.
use Rattle.std.specs.Prelude.{◌≡◌, ℕ, List, Option, Some, None, Result, Ok, Err, ⊤}
use Rattle.cam6_wiring.specs.declared.wirings.Wiring.{Wiring}
use Rattle.cam6_forth.specs.Defined.{Defined}
use Rattle.cam6_forth.specs.Reading.{read_text}
use Rattle.cam6_forth.specs.Trees.{tree_of}
use Rattle.cam6_table.specs.declared.codes.Instruction.{Instruction}
use Rattle.cam6_table.specs.declared.compiling.NotCompiled.{NotCompiled}
use Rattle.cam6_table.specs.declared.compiling.NotCompiled.TheVariants.{Text, Stops, NoMemory}
use Rattle.cam6_table.specs.declared.faults.RuleFault.{RuleFault}
use Rattle.cam6_table.specs.Meaning.{at_address}
use Rattle.cam6_table.specs.Tables.{least_stop}

-- the least address at which words stop, with the fault there, if they stop at any
abbrev pub fault_of_stop : Option (ℕ × RuleFault) → Option NotCompiled
fault_of_stop None = None
fault_of_stop (Some stop) = Some (Stops stop.0 stop.1)

-- the fault that was read in a text, or that of its words
abbrev pub fault_read : Wiring → List ℕ → Result (List Defined) (ℕ × ℕ) → Option NotCompiled
fault_read wiring text (Err fault) = Some (Text (record { number = fault.0; token = fault.1 }))
fault_read wiring text (Ok definitions) =
    fault_of_stop (least_stop (at_address wiring (tree_of text)))

-- a text's first fault, if it has one. If not, the least address at which its words stop, with the
-- fault there. None if nothing is wrong in it
abbrev pub fault_in : Wiring → List ℕ → Option NotCompiled
fault_in wiring text = fault_read wiring text (read_text wiring text)

-- code comes only if nothing is wrong, and a refusal only for what is wrong; if memory runs out,
-- nothing is said
abbrev pub IsRefusedFor : Option NotCompiled → Result (List Instruction) NotCompiled → Type 0
IsRefusedFor wrong (Ok code) = wrong ≡ None
IsRefusedFor wrong (Err (Text fault)) = wrong ≡ Some (Text fault)
IsRefusedFor wrong (Err (Stops address fault)) = wrong ≡ Some (Stops address fault)
IsRefusedFor wrong (Err NoMemory) = ⊤
