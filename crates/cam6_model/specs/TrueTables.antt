-- The tables of rules, by which a machine goes forward or backward.
use Rattle.std.specs.Prelude.{◌≡◌, ℕ, List, Option, Some, None, ⊤}
use Rattle.cam6_block.specs.RuleTables.{IsTableBy}
use Rattle.cam6_cycle.specs.declared.tables.Direction.{Direction}
use Rattle.cam6_band.specs.ByTables.{HalfEntries, StepTables}
use Rattle.cam6_model.specs.Rules.{Rule}
use Rattle.cam6_model.specs.Cycles.{EntryRules}

-- a rule's table: forward, that of its words; backward, the one that undoes its blocks, of a rule
-- that can be undone
abbrev pub IsTable : Direction → Rule → List ℕ → Type 0
IsTable direction rule entries = IsTableBy direction rule.wiring rule.text entries

-- the same, if there is a rule
abbrev pub IsTableFor : Direction → Option Rule → List ℕ → Type 0
IsTableFor direction None entries = ⊤
IsTableFor direction (Some rule) entries = IsTable direction rule entries

-- a half has its rule's table, with the wiring that the rule is written for, or no rule and none
abbrev pub HasTableFor : Direction → Option Rule → Option HalfEntries → Type 0
HasTableFor direction None None = ⊤
HasTableFor direction None (Some half) = ⊥
HasTableFor direction (Some rule) None = ⊥
HasTableFor direction (Some rule) (Some half) =
    (half.hood ≡ rule.wiring.hood) × (half.minor ≡ rule.wiring.minor)
    × IsTable direction rule half.entries

-- these are the tables of an entry's rules
pub record AreTablesFor (direction : Direction) (entry : EntryRules) (tables : StepTables) :
    Type 0 where
  pub a : HasTableFor direction entry.a tables.a
  pub b : HasTableFor direction entry.b tables.b
  pub grid : tables.grid ≡ entry.grid
  pub phase : tables.phase ≡ entry.phase
