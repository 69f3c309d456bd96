-- What stands where none is used.
use Rattle.std.specs.Prelude.{None}
use Rattle.cam6_wiring.specs.declared.blocks.Grid.TheVariants.{Even}
use Rattle.cam6_wiring.specs.declared.names.Half.TheVariants.{A}
use Rattle.cam6_wiring.specs.declared.names.Phase.TheVariants.{P0}
use Rattle.cam6_wiring.specs.declared.wirings.Hood.TheVariants.{Moore}
use Rattle.cam6_wiring.specs.declared.wirings.Minor.TheVariants.{Centers}
use Rattle.cam6_cycle.specs.declared.entries.Entry.{Entry}
use Rattle.cam6_cycle.specs.declared.tables.Direction.TheVariants.{Forward}
use Rattle.cam6_cycle.specs.declared.tables.NeededTable.{NeededTable}

-- an entry that leaves every plane as it is: no rule for either half, the even grid, phase 0
abbrev pub idle_entry : Entry
idle_entry = record { a = None; b = None; grid = Even; phase = P0 }

-- the straight table of rule 0 of half A, for N/MOORE with &/CENTERS
abbrev pub unused_table : NeededTable
unused_table =
    record {
      half = A;
      rule = record { number = 0; hood = Moore; minor = Centers };
      direction = Forward;
    }
