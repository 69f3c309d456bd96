-- Rules by their numbers, as a cycle has them: a rule's number is its index among the rules.
use Rattle.std.specs.Prelude.{◌≡◌, ◌<◌, ℕ, List, [], map, slice_index_or, Option, Some, None, ⊤}
use Rattle.std.specs.List.{slice_get, AllByRecursion}
use Rattle.cam6_wiring.specs.Name.{phase_number}
use Rattle.cam6_cycle.specs.declared.entries.Entry.{Entry}
use Rattle.cam6_cycle.specs.declared.entries.HalfRule.{HalfRule}
use Rattle.cam6_cycle.specs.declared.tables.Direction.{Direction}
use Rattle.cam6_cycle.specs.declared.tables.NeededTable.{NeededTable}
use Rattle.cam6_model.specs.Rules.{Rule}
use Rattle.cam6_model.specs.Cycles.{EntryRules}
use Rattle.cam6_model.specs.TrueTables.{IsTableFor}
use Rattle.cam6_commands.specs.declared.commands.NamedEntry.{NamedEntry}

-- the rule at a number, if there is a number and a rule at it
abbrev pub rule_at : List Rule → Option ℕ → Option Rule
rule_at rules None = None
rule_at rules (Some number) = slice_get rules number

-- the name of a rule, if there is one
abbrev pub name_of : Option Rule → Option (List ℕ)
name_of None = None
name_of (Some rule) = Some rule.name

-- the number of an entry's rule, if it has one
abbrev pub number_in : Option HalfRule → Option ℕ
number_in None = None
number_in (Some rule) = Some rule.number

-- an entry with the rules at its numbers
abbrev pub rules_at : List Rule → Entry → EntryRules
rules_at rules entry =
    record {
      a = rule_at rules (number_in entry.a);
      b = rule_at rules (number_in entry.b);
      grid = entry.grid;
      phase = entry.phase;
    }

-- an entry with the names of the rules at its numbers
abbrev pub named_entry : List Rule → Entry → NamedEntry
named_entry rules entry =
    record {
      a = name_of (rule_at rules (number_in entry.a));
      b = name_of (rule_at rules (number_in entry.b));
      grid = entry.grid;
      phase = phase_number entry.phase;
    }

-- the entries of a cycle, if one is set
abbrev pub entries_of : Option (List Entry) → List Entry
entries_of None = []
entries_of (Some entries) = entries

-- a cycle's entries, with names
abbrev pub named_entries : List Rule → List Entry → List NamedEntry
named_entries rules entries = map (named_entry rules) entries

-- the rule of a half, if it has one, stands at its number, and is written for what the half says
abbrev pub IsNumbered : List Rule → Option HalfRule → Type 0
IsNumbered rules None = ⊤
IsNumbered rules (Some half) =
    (rule : Rule) × (slice_get rules half.number ≡ Some rule) ×
    (rule.wiring.hood ≡ half.hood) × (rule.wiring.minor ≡ half.minor)

-- so it is with all entries
abbrev pub AreNumbered : List Rule → List Entry → Type 0
AreNumbered rules entries =
    AllByRecursion (λ entry. IsNumbered rules entry.a × IsNumbered rules entry.b) entries

-- at the indices of the first n of the needed tables stand the tables of their rules
abbrev pub AreTables :
    Direction → ℕ → List Rule → List NeededTable → List (List ℕ) → Type 0
AreTables direction n rules needed tables =
    (index : ℕ) (table : NeededTable) → index < n → slice_get needed index ≡ Some table →
    IsTableFor direction (rule_at rules (Some table.rule.number))
    (slice_index_or tables index [])
