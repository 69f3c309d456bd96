-- Laws of rules by their numbers.
use Rattle.std.specs.Prelude.{◌≡◌, ℕ, List, length, Some}
use Rattle.std.specs.List.{slice_get}
use Rattle.cam6_planes.specs.Cells.{torus}
use Rattle.cam6_planes.specs.Side.{side_number}
use Rattle.cam6_band.specs.ByTables.{StepTables, step_by}
use Rattle.cam6_band.specs.AtPosition.{step_tables_at}
use Rattle.cam6_cycle.specs.Along.{entry_index, position_after}
use Rattle.cam6_cycle.specs.Tables.{tables_needed}
use Rattle.cam6_cycle.specs.declared.entries.Entry.{Entry}
use Rattle.cam6_cycle.specs.declared.tables.Direction.{Direction}
use Rattle.cam6_model.specs.Rules.{Rule}
use Rattle.cam6_model.specs.Cycles.{entry_rules}
use Rattle.cam6_model.specs.Machine.{Machine}
use Rattle.cam6_model.specs.Moves.{one_moved, CanMove}
use Rattle.cam6_model.specs.TrueTables.{AreTablesFor}
use Rattle.cam6_rules.specs.Numbers.{rules_at, named_entry, named_entries}
use Rattle.cam6_rules.specs.Numbers.{IsNumbered, AreNumbered, AreTables}
use Rattle.cam6_rules.specs.Filled.{AreTablesOf}
use Rattle.cam6_model.specs.Always.{HaveOwnNames}

-- the tables by use give those of each position
abbrev pub TablesByUse : Type 0
TablesByUse =
    (direction : Direction) (rules : List Rule) (entries : List Entry) (tables : List (List ℕ))
    (position : ℕ) (entry : Entry) (step : StepTables) →
    AreNumbered rules entries →
    AreTables direction (length (tables_needed direction entries)) rules
    (tables_needed direction entries) tables →
    slice_get entries position ≡ Some entry → step_tables_at entries position tables ≡ Some step →
    AreTablesFor direction (rules_at rules entry) step

-- an entry's rules by their numbers are its rules by their names
abbrev pub NumbersAndNames : Type 0
NumbersAndNames =
    (rules : List Rule) (entry : Entry) → HaveOwnNames rules →
    IsNumbered rules entry.a → IsNumbered rules entry.b →
    entry_rules rules (named_entry rules entry) ≡ rules_at rules entry

-- a machine that can move this way moves by one step, by the true tables of its cycle; the cycle
-- has these entries by the numbers of its rules
abbrev pub TrueTablesMove : Type 0
TrueTablesMove =
    (direction : Direction) (m : Machine) (entries : List Entry) (tables : List (List ℕ))
    (step : StepTables) →
    HaveOwnNames m.rules → AreNumbered m.rules entries →
    m.cycle ≡ named_entries m.rules entries →
    torus (side_number m.side) m.planes ≡ m.planes → CanMove direction m →
    AreTablesOf direction m.rules entries tables →
    step_tables_at entries (entry_index direction (length entries) m.position) tables ≡ Some step →
    one_moved direction m
    ≡ record m {
      planes = step_by (side_number m.side) step m.planes;
      position = position_after direction (length entries) m.position;
    }
