-- The rules that a machine keeps, in their order.
use Rattle.std.specs.Prelude.{ℕ, List, [], ◌∷◌, Option, Some, None, if◌then◌else◌}
use Rattle.std.specs.Str.{bytes_eq}
use Rattle.cam6_wiring.specs.declared.wirings.Wiring.{Wiring}
use Rattle.cam6_commands.specs.declared.saved.NamedRule.{NamedRule}

-- a rule: its name, what it is written for, and its text
abbrev pub Rule : Type 0
Rule = NamedRule

-- the rule with this name
abbrev pub rule_named : List ℕ → List Rule → Option Rule
rule_named name [] = None
rule_named name (rule ∷ rules) =
    if bytes_eq name rule.name then Some rule else rule_named name rules

-- the rule of a name, if there is a name and such a rule
abbrev pub rule_if_named : Option (List ℕ) → List Rule → Option Rule
rule_if_named None rules = None
rule_if_named (Some name) rules = rule_named name rules

-- what a rule is written for
abbrev pub wiring_for : Option Rule → Option Wiring
wiring_for None = None
wiring_for (Some rule) = Some rule.wiring

-- what the rule with this name is written for
abbrev pub wiring_of : List ℕ → List Rule → Option Wiring
wiring_of name rules = wiring_for (rule_named name rules)
