-- What a machine always is.
use Rattle.std.specs.Prelude.{◌≡◌, ℕ, ◌≤◌, ◌<◌, List, [], ◌∷◌, map, length, true, Option, None}
use Rattle.std.specs.Prelude.{Some, ⊤}
use Rattle.std.specs.List.{AllByRecursion, IsDistinct}
use Rattle.std.specs.Str.{bytes_eq, IsUtf8}
use Rattle.cam6_wiring.specs.declared.names.Half.{Half}
use Rattle.cam6_wiring.specs.declared.names.Half.TheVariants.{A, B}
use Rattle.cam6_planes.specs.Side.{side_number}
use Rattle.cam6_planes.specs.Cells.{torus}
use Rattle.cam6_commands.specs.Limits.{max_rules, cell_states, max_colour}
use Rattle.cam6_cycle.specs.Limits.{max_entries}
use Rattle.cam6_commands.specs.Names.{is_rule_name}
use Rattle.cam6_model.specs.Rules.{Rule, rule_named}
use Rattle.cam6_model.specs.Refusals.{words_refusal}
use Rattle.cam6_model.specs.Machine.{Machine}
use Rattle.cam6_commands.specs.declared.commands.NamedEntry.{NamedEntry}

-- no two rules have one name
abbrev pub HaveOwnNames : List Rule → Type 0
HaveOwnNames rules = IsDistinct bytes_eq (map (λ rule. rule.name) rules)

-- an entry's name for a half, if it has one, is that of a rule of this half
abbrev pub IsNamed : List Rule → Half → Option (List ℕ) → Type 0
IsNamed rules half None = ⊤
IsNamed rules half (Some name) =
    (rule : Rule) × (rule_named name rules ≡ Some rule) × (rule.wiring.half ≡ half)

-- an entry of a cycle: its rules are there and of its halves, and its phase is below 4
abbrev pub IsEntry : List Rule → NamedEntry → Type 0
IsEntry rules entry = IsNamed rules A entry.a × IsNamed rules B entry.b × (entry.phase < 4)

-- a position below the length, or 0 without a cycle
abbrev pub IsPosition : List NamedEntry → ℕ → Type 0
IsPosition [] position = position ≡ 0
IsPosition (entry ∷ cycle) position = position < length (entry ∷ cycle)

-- what rules always are: a few, with rule names of their own, and texts that are UTF-8, have no
-- fault and stop nowhere
pub record AreRules (rules : List Rule) : Type 0 where
  pub few : length rules ≤ max_rules
  pub names : AllByRecursion (λ rule. is_rule_name rule.name ≡ true) rules
  pub own : HaveOwnNames rules
  pub sound : AllByRecursion (λ rule. words_refusal rule.wiring rule.text ≡ None) rules
  pub texts : AllByRecursion (λ rule. IsUtf8 rule.text) rules

-- a side within the limit, and planes of it; rules; a few entries that name them, and a position
-- among them; and a colour for each state of a cell
pub record IsMachine (m : Machine) : Type 0 where
  pub within : side_number m.side ≤ side_number m.limit
  pub planes : torus (side_number m.side) m.planes ≡ m.planes
  pub rules : AreRules m.rules
  pub short : length m.cycle ≤ max_entries
  pub entries : AllByRecursion (IsEntry m.rules) m.cycle
  pub position : IsPosition m.cycle m.position
  pub coloured : length m.colours ≡ cell_states
  pub colours : AllByRecursion (λ colour. colour ≤ max_colour) m.colours
