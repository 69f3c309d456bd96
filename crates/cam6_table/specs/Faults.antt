-- The numbers of the faults of a rule that runs.
use Rattle.std.specs.Prelude.{ℕ}
use Rattle.cam6_table.specs.declared.faults.RuleFault.{RuleFault}
use Rattle.cam6_table.specs.declared.faults.RuleFault.TheVariants.{MissingValue, FullStack}
use Rattle.cam6_table.specs.declared.faults.RuleFault.TheVariants.{CaseIndex, Range}

abbrev pub fault_number : RuleFault → ℕ
fault_number MissingValue = 40
fault_number FullStack = 41
fault_number CaseIndex = 42
fault_number Range = 43
