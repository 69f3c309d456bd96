-- The numbers of refusals, of commands and of events.
use Rattle.std.specs.Prelude.{ℕ}
use Rattle.cam6_table.specs.Faults as rule
use Rattle.cam6_block.specs.Refusals as block
use Rattle.cam6_commands.specs.declared.faults.Fault.{Fault}
use Rattle.cam6_commands.specs.declared.faults.Fault.TheVariants.{NoRule, RuleInUse, TooManyRules}
use Rattle.cam6_commands.specs.declared.faults.Fault.TheVariants.{NoCycle, OutOfRange, WrongHalf}
use Rattle.cam6_commands.specs.declared.faults.Fault.TheVariants.{AboveLimit, NoMachine}
use Rattle.cam6_commands.specs.declared.refusals.Refusal.{Refusal}
use Rattle.cam6_commands.specs.declared.refusals.Refusal.TheVariants as refusal
use Rattle.cam6_commands.specs.declared.refused.Refused.{Refused}
use Rattle.cam6_commands.specs.declared.refused.Refused.TheVariants as why

-- of a number, a name or what the machine has
abbrev pub fault_number : Fault → ℕ
fault_number NoRule = 60
fault_number RuleInUse = 61
fault_number TooManyRules = 62
fault_number NoCycle = 63
fault_number OutOfRange = 65
fault_number WrongHalf = 66
fault_number AboveLimit = 67
fault_number NoMachine = 68

-- 20 to 28 of a text, 40 to 43 of a rule that stops, 64 of one that can't be undone, and 60 to 68
-- but for 64 of all else
abbrev pub refusal_number : Refusal → ℕ
refusal_number (refusal.Fault fault) = fault_number fault
refusal_number (refusal.Text fault) = fault.number
refusal_number (refusal.Stops address fault) = rule.fault_number fault
refusal_number (refusal.NotReversible entry half cause) = block.cause_number cause

-- 101 to 109 of an event
abbrev pub refused_number : Refused → ℕ
refused_number why.NoSuchNumber = 101
refused_number why.UserIsWaiting = 102
refused_number why.UserIsNotQueued = 103
refused_number why.BoardIsNotIdle = 104
refused_number why.BoardHoldsNothing = 105
refused_number why.BoardIsDead = 106
refused_number why.BoardIsNotDead = 107
refused_number why.NothingIsFinished = 108
refused_number why.NoTableIsCached = 109
