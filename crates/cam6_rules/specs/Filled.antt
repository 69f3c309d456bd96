-- Tables that remember for which way along a cycle they are filled.
use Rattle.std.specs.Prelude.{ℕ, List, length, Option, Some, None, ⊤}
use Rattle.cam6_cycle.specs.Tables.{tables_needed}
use Rattle.cam6_cycle.specs.declared.entries.Entry.{Entry}
use Rattle.cam6_cycle.specs.declared.tables.Direction.{Direction}
use Rattle.cam6_cycle.specs.declared.tables.Direction.TheVariants.{Forward, Backward}
use Rattle.cam6_commands.specs.declared.commands.NamedEntry.{NamedEntry}
use Rattle.cam6_commands.specs.declared.refusals.Refusal.{Refusal}
use Rattle.cam6_model.specs.Refusals.{first_cause}
use Rattle.cam6_model.specs.Rules.{Rule}
use Rattle.cam6_rules.specs.Numbers.{AreTables}

-- the entries of the tables, use by use, and the way along a cycle for which they are filled, if
-- they are
pub record StoredTables : Type 0 where
  pub entries : List (List ℕ)
  pub filled : Option Direction

-- at the index of each use of a rule in a cycle stands the rule's table for this way
abbrev pub AreTablesOf : Direction → List Rule → List Entry → List (List ℕ) → Type 0
AreTablesOf direction rules cycle tables =
    let needed = tables_needed direction cycle in
    AreTables direction (length needed) rules needed tables

-- the same, if there is a way for which they are filled
abbrev pub AreTablesIf : Option Direction → List Rule → List Entry → List (List ℕ) → Type 0
AreTablesIf None rules cycle tables = ⊤
AreTablesIf (Some direction) rules cycle tables = AreTablesOf direction rules cycle tables

-- tables are those of a cycle's rules if they say that they are filled
abbrev pub AreTrue : StoredTables → List Rule → List Entry → Type 0
AreTrue tables rules cycle = AreTablesIf tables.filled rules cycle tables.entries

-- why the rules of a cycle have no tables for this way, if they haven't: backward, the first that
-- can't be undone
abbrev pub way_refusal : Direction → List Rule → List NamedEntry → Option Refusal
way_refusal Forward rules cycle = None
way_refusal Backward rules cycle = first_cause rules 0 cycle
