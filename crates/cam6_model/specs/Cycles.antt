-- The entries of a cycle. They name their rules.
use Rattle.std.specs.Prelude.{ℕ, zero, suc, List, Option}
use Rattle.cam6_wiring.specs.declared.blocks.Grid.{Grid}
use Rattle.cam6_wiring.specs.declared.names.Half.{Half}
use Rattle.cam6_wiring.specs.declared.names.Half.TheVariants.{A, B}
use Rattle.cam6_wiring.specs.declared.names.Phase.{Phase}
use Rattle.cam6_wiring.specs.declared.names.Phase.TheVariants.{P0, P1, P2, P3}
use Rattle.cam6_wiring.specs.declared.neighbours.Setting.{Setting}
use Rattle.cam6_model.specs.Rules.{Rule, rule_if_named}
use Rattle.cam6_commands.specs.declared.commands.NamedEntry.{NamedEntry}

-- the phase of a number 0 to 3
abbrev pub phase_of : ℕ → Phase
phase_of zero = P0
phase_of (suc zero) = P1
phase_of (suc (suc zero)) = P2
phase_of (suc (suc (suc n))) = P3

-- the name that an entry has for a half, if it has one
abbrev pub name_for : Half → NamedEntry → Option (List ℕ)
name_for A entry = entry.a
name_for B entry = entry.b

-- what a step is done by: for each half a rule or none, and a grid and a phase
pub record EntryRules : Type 0 where
  pub a : Option Rule
  pub b : Option Rule
  pub grid : Grid
  pub phase : Phase

-- an entry with the rules that it names
abbrev pub entry_rules : List Rule → NamedEntry → EntryRules
entry_rules rules entry =
    record {
      a = rule_if_named entry.a rules;
      b = rule_if_named entry.b rules;
      grid = entry.grid;
      phase = phase_of entry.phase;
    }

-- the rule of a half
abbrev pub rule_for : Half → EntryRules → Option Rule
rule_for A entry = entry.a
rule_for B entry = entry.b

-- the grid and the phase, for a half
abbrev pub setting_for : Half → EntryRules → Setting
setting_for half entry = record { half = half; grid = entry.grid; phase = entry.phase }
