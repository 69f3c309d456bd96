-- What follows of the tables that the steps of a cycle use.
use Rattle.std.specs.Prelude.{◌≡◌, ℕ, List, [], slice_index_or, Some}
use Rattle.std.specs.List.{slice_get}
use Rattle.cam6_wiring.specs.declared.names.Half.{Half}
use Rattle.cam6_cycle.specs.Tables.{rule_in, tables_needed}
use Rattle.cam6_cycle.specs.declared.entries.Entry.{Entry}
use Rattle.cam6_cycle.specs.declared.entries.HalfRule.{HalfRule}
use Rattle.cam6_cycle.specs.declared.tables.Direction.{Direction}
use Rattle.cam6_band.specs.ByTables.{StepTables, table_for}
use Rattle.cam6_band.specs.AtPosition.{step_tables_at}

-- a half's table at a position is the one that the cycle needs for this use of its rule
abbrev pub GoesByItsUse : Type 0
GoesByItsUse =
    (direction : Direction) (entries : List Entry) (tables : List (List ℕ)) (position : ℕ)
    (step : StepTables) (half : Half) (entry : Entry) (rule : HalfRule) →
    slice_get entries position ≡ Some entry → rule_in half entry ≡ Some rule →
    step_tables_at entries position tables ≡ Some step →
    (index : ℕ) ×
    (slice_get (tables_needed direction entries) index
    ≡ Some (record { half = half; rule = rule; direction = direction })) ×
    (table_for half step
    ≡ Some (record {
      entries = slice_index_or tables index [];
      hood = rule.hood;
      minor = rule.minor;
    }))
