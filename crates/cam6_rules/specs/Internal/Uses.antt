-- The use of a rule, and why it has no table.
use Rattle.std.specs.Prelude.{◌≡◌, ℕ, List, Option, Some, None, ⊤}
use Rattle.cam6_block.specs.declared.refusals.NotReversible.{NotReversible}
use Rattle.cam6_cycle.specs.declared.entries.HalfRule.{HalfRule}
use Rattle.cam6_cycle.specs.declared.tables.NeededTable.{NeededTable}
use Rattle.cam6_model.specs.Rules.{Rule}
use Rattle.cam6_model.specs.Refusals.{rule_cause}
use Rattle.cam6_rules.specs.Numbers.{rule_at}

-- a needed table is that of the rule at this number
abbrev pub IsUse : ℕ → Option NeededTable → Type 0
IsUse number None = ⊥
IsUse number (Some table) = table.rule.number ≡ number

-- a needed table is that of a half's rule, if it has one
abbrev pub IsUseOf : Option HalfRule → Option NeededTable → Type 0
IsUseOf None table = ⊤
IsUseOf (Some rule) table = IsUse rule.number table

-- this is why the rule of a needed table can't be undone
abbrev pub IsCauseOf : List Rule → NotReversible → Option NeededTable → Type 0
IsCauseOf rules cause None = ⊥
IsCauseOf rules cause (Some table) =
    rule_cause (rule_at rules (Some table.rule.number)) ≡ Some cause
