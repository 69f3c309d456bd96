-- Which of the tables by use serve a position of a cycle.
use Rattle.std.specs.Prelude.{ℕ, ◌+◌, List, [], length, slice_index_or, Option, Some, None}
use Rattle.std.specs.List.{slice_get}
use Rattle.std.specs.Option.{option_map}
use Rattle.cam6_wiring.specs.declared.names.Half.TheVariants.{A}
use Rattle.cam6_cycle.specs.Tables.{needed_for, count_before}
use Rattle.cam6_cycle.specs.declared.entries.Entry.{Entry}
use Rattle.cam6_cycle.specs.declared.entries.HalfRule.{HalfRule}
use Rattle.cam6_cycle.specs.declared.tables.Direction.TheVariants.{Forward}
use Rattle.cam6_band.specs.ByTables.{HalfEntries, StepTables}

-- a half's table at an index among the tables by use, read by the wiring of its rule, if it has one
abbrev pub half_at : Option HalfRule → List (List ℕ) → ℕ → Option HalfEntries
half_at None tables index = None
half_at (Some rule) tables index =
    Some
    (record {
      entries = slice_index_or tables index [];
      hood = rule.hood;
      minor = rule.minor;
    })

-- an entry's tables: half A's at the index, and half B's after it
abbrev pub tables_from : ℕ → Entry → List (List ℕ) → StepTables
tables_from index entry tables =
    record {
      a = half_at entry.a tables index;
      b = half_at entry.b tables (index + length (needed_for Forward A entry.a));
      grid = entry.grid;
      phase = entry.phase;
    }

-- the tables of the entry at a position, if there is an entry: they stand after those of the
-- entries before it
abbrev pub step_tables_at : List Entry → ℕ → List (List ℕ) → Option StepTables
step_tables_at entries position tables =
    option_map (λ entry. tables_from (count_before entries position) entry tables)
    (slice_get entries position)
