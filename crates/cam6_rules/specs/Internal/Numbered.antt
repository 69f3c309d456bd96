-- How the code keeps rules and a cycle: rules in a map by name, each with its code, and entries
-- with the numbers of their rules instead of the names.
use Rattle.std.specs.Prelude.{ℕ, suc, ◌-◌, ◌<◌, nat_lt, Bool, false, ◌||◌, ◌==◌, List, []}
use Rattle.std.specs.Prelude.{◌∷◌, map, length}
use Rattle.std.specs.Prelude.{Option, Some, None, ⊤, String, string_bytes, if◌then◌else◌}
use Rattle.std.specs.List.{slice_get}
use Rattle.std.specs.Option.{option_map}
use Rattle.std.specs.Str.{bytes_eq}
use Rattle.std.specs.declared.alloc.Global.{Global}
use Rattle.cam6_wiring.specs.declared.wirings.Wiring.{Wiring}
use Rattle.cam6_cycle.specs.declared.entries.Entry.{Entry}
use Rattle.cam6_cycle.specs.declared.entries.HalfRule.{HalfRule}
use Rattle.cam6_model.specs.Rules.{Rule, wiring_for}
use Rattle.cam6_model.specs.Cycles.{phase_of}
use Rattle.cam6_rules.specs.Compiled.{Compiled}
use Rattle.cam6_rules.specs.Numbers.{rule_at, number_in}
use Rattle.cam6_commands.specs.declared.commands.NamedEntry.{NamedEntry}

-- the rules of a map from names
abbrev pub rules_of : List (String Global × Compiled) → List Rule
rules_of entries =
    map (λ e. record { name = string_bytes e.0; wiring = e.1.wiring; text = e.1.text }) entries

-- the number of the rule with this name
abbrev pub rule_number : List ℕ → List Rule → Option ℕ
rule_number name [] = None
rule_number name (rule ∷ rules) =
    if bytes_eq name rule.name then Some 0 else option_map suc (rule_number name rules)

-- what the rule at a number is written for
abbrev pub wiring_at : List Rule → Option ℕ → Option Wiring
wiring_at rules number = wiring_for (rule_at rules number)

-- the number of a name's rule, if there is a name and such a rule
abbrev pub number_if_named : List Rule → Option (List ℕ) → Option ℕ
number_if_named rules None = None
number_if_named rules (Some name) = rule_number name rules

-- a rule by its number, with what it is written for
abbrev pub half_rule : ℕ → Option Rule → Option HalfRule
half_rule number None = None
half_rule number (Some rule) =
    Some (record { number = number; hood = rule.wiring.hood; minor = rule.wiring.minor })

-- the same for the rule at a number, if there is a number and a rule at it
abbrev pub half_rule_at : List Rule → Option ℕ → Option HalfRule
half_rule_at rules None = None
half_rule_at rules (Some number) = half_rule number (slice_get rules number)

-- an entry with the numbers of the rules that it names
abbrev pub numbered_entry : List Rule → NamedEntry → Entry
numbered_entry rules entry =
    record {
      a = half_rule_at rules (number_if_named rules entry.a);
      b = half_rule_at rules (number_if_named rules entry.b);
      grid = entry.grid;
      phase = phase_of entry.phase;
    }

-- a rule stands at the number, if there is a number
abbrev pub IsNumber : List Rule → Option ℕ → Type 0
IsNumber rules None = ⊤
IsNumber rules (Some number) = number < length rules

-- whether this is the number, if there is one
abbrev pub is_number : ℕ → Option ℕ → Bool
is_number number None = false
is_number number (Some other) = other == number

-- whether an entry has the rule at this number
abbrev pub uses_number : ℕ → Entry → Bool
uses_number number entry =
    is_number number (number_in entry.a) || is_number number (number_in entry.b)

-- a number once the rule at a number is gone: those after it close up
abbrev pub closed_up : ℕ → ℕ → ℕ
closed_up number other = if nat_lt number other then other - 1 else other

abbrev pub closed_half : ℕ → Option HalfRule → Option HalfRule
closed_half number None = None
closed_half number (Some rule) = Some (record rule { number = closed_up number rule.number })

-- an entry once the rule at a number is gone
abbrev pub closed_entry : ℕ → Entry → Entry
closed_entry number entry =
    record entry { a = closed_half number entry.a; b = closed_half number entry.b }
