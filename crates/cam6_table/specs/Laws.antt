-- The laws that tie trees, what they mean, and tables.
use Rattle.std.specs.Prelude.{◌≡◌, ℕ, ◌<◌, ◌≤◌, List, length, slice_index}
use Rattle.std.specs.Prelude.{Some, None, Ok, Err, IsOk}
use Rattle.cam6_wiring.specs.Seen.{Sees, address_of}
use Rattle.cam6_wiring.specs.declared.wirings.Wiring.{Wiring}
use Rattle.cam6_forth.specs.Defined.{RuleWords}
use Rattle.cam6_forth.specs.Outcome.{IsAccepted}
use Rattle.cam6_forth.specs.Tree.{Part, IsRule, rule_of}
use Rattle.cam6_forth.specs.declared.words.StackWord.{StackWord}
use Rattle.cam6_table.specs.declared.codes.Instruction.{Instruction}
use Rattle.cam6_table.specs.declared.faults.RuleFault.{RuleFault}
use Rattle.cam6_table.specs.declared.faults.RuleFault.TheVariants.{MissingValue}
use Rattle.cam6_entries.specs.Limits.{addresses}
use Rattle.cam6_table.specs.Words.{Values, wants, on_stack}
use Rattle.cam6_table.specs.Meaning.{meaning, at_address}
use Rattle.cam6_table.specs.Tables.{Results, AreEntries, IsLeastStop, IsTrueTable, least_stop}
use Rattle.cam6_table.specs.Codes.{result_at, IsCodeOf}
use Rattle.cam6_table.specs.RuleTexts.{IsCodeFor, IsTableOf}

-- a true table, read at the address of what is seen, is the rule as a function
abbrev pub TrueTableIsRule : Type 0
TrueTableIsRule =
    (wiring : Wiring) (parts : List Part) (entries : List ℕ) (sees : Sees) →
    IsRule wiring parts → IsTrueTable wiring parts entries →
    meaning wiring parts sees
    ≡ Ok (slice_index entries (address_of wiring.hood wiring.minor sees))

-- trees of one rule mean the same
abbrev pub TreesMeanTheSame : Type 0
TreesMeanTheSame =
    (wiring : Wiring) (first second : List Part) (sees : Sees) →
    IsRule wiring first → IsRule wiring second → rule_of wiring first ≡ rule_of wiring second →
    meaning wiring first sees ≡ meaning wiring second sees

-- the least address at which any fault comes is found, with its fault
abbrev pub LeastIsFound : Type 0
LeastIsFound =
    (results : Results) (address : ℕ) (fault : RuleFault) → IsLeastStop results address fault →
    least_stop results ≡ Some (address, fault)

-- and none is found if there is an entry at each address
abbrev pub NoneIsFound : Type 0
NoneIsFound =
    (results : Results) → ((address : ℕ) → address < addresses → IsOk (results address)) →
    least_stop results ≡ None

-- a stack word stops with MissingValue exactly if there are fewer values than it wants
abbrev pub WantsValues : Type 0
WantsValues =
    (word : StackWord) (values : Values) →
    (length values < wants word → on_stack word values ≡ Err MissingValue)
    × (wants word ≤ length values → on_stack word values ≡ Err MissingValue → ⊥)

-- a rule that stops at no address stops nowhere, whatever is seen
abbrev pub RunsEverywhere : Type 0
RunsEverywhere =
    (wiring : Wiring) (parts : List Part) (sees : Sees) → IsRule wiring parts →
    least_stop (at_address wiring parts) ≡ None → IsOk (meaning wiring parts sees)

-- if code of the rule that a text was accepted as filled a table, it is the text's code, and the
-- table is the text's table
abbrev pub FilledIsOfTheText : Type 0
FilledIsOfTheText =
    (wiring : Wiring) (text : List ℕ) (rule : RuleWords) (code : List Instruction)
    (entries : List ℕ) → IsAccepted wiring text (Ok rule) → IsCodeOf code rule →
    length entries ≡ addresses → AreEntries (result_at code) entries →
    IsCodeFor wiring text code × IsTableOf wiring text entries
