-- One step of all cells by tables.
use Rattle.std.specs.Prelude.{ℕ, Bool, List, slice_index, Option, Some, None}
use Rattle.std.specs.Option.{option_map}
use Rattle.cam6_planes.specs.Cells.{Cells, torus}
use Rattle.cam6_wiring.specs.Name.{plane_of, on_plane}
use Rattle.cam6_wiring.specs.Seen.{address}
use Rattle.cam6_wiring.specs.declared.blocks.Grid.{Grid}
use Rattle.cam6_wiring.specs.declared.names.Half.{Half}
use Rattle.cam6_wiring.specs.declared.names.Half.TheVariants.{A, B}
use Rattle.cam6_wiring.specs.declared.names.Level.{Level}
use Rattle.cam6_wiring.specs.declared.names.Phase.{Phase}
use Rattle.cam6_wiring.specs.declared.neighbours.Setting.{Setting}
use Rattle.cam6_wiring.specs.declared.wirings.Hood.{Hood}
use Rattle.cam6_wiring.specs.declared.wirings.Minor.{Minor}
use Rattle.cam6_entries.specs.NewBits.{bit_for}
use Rattle.cam6_band.specs.declared.tables.HalfTable.{HalfTable}
use Rattle.cam6_band.specs.declared.tables.EntryTables.{EntryTables}

-- the entries of a half's table, and what names are on its address lines
pub record HalfEntries : Type 0 where
  pub entries : List ℕ
  pub hood : Hood
  pub minor : Minor

-- what a step uses: for each half a table or none, and the grid and the phase
pub record StepTables : Type 0 where
  pub a : Option HalfEntries
  pub b : Option HalfEntries
  pub grid : Grid
  pub phase : Phase

-- a half's table, wherever it lies
abbrev pub half_entries : HalfTable → HalfEntries
half_entries half = record { entries = half.table.now; hood = half.hood; minor = half.minor }

-- the tables of both halves, wherever they lie
abbrev pub values_of : EntryTables → StepTables
values_of tables =
    record {
      a = option_map half_entries tables.a;
      b = option_map half_entries tables.b;
      grid = tables.grid;
      phase = tables.phase;
    }

-- the new bit of a plane of a half at a cell of f: the plane's bit of the entry at the address that
-- the cell shows. Without a table the bit stays
abbrev pub bit_by_table : ℕ → Cells → Setting → Option HalfEntries → Level → ℕ → ℕ → Bool
bit_by_table s f setting None level x y = f (plane_of setting.half level) x y
bit_by_table s f setting (Some half) level x y =
    bit_for level (slice_index half.entries (address s f setting half.hood half.minor x y))

-- the table of a half
abbrev pub table_for : Half → StepTables → Option HalfEntries
table_for A tables = tables.a
table_for B tables = tables.b

-- the grid and the phase, for a half
abbrev pub setting_by : Half → StepTables → Setting
setting_by half tables = record { half = half; grid = tables.grid; phase = tables.phase }

-- one step by tables: every cell of both halves takes its new bits at once, read from f, on a torus
-- of s rows and columns
unfoldable pub step_by : ℕ → StepTables → Cells → Cells
step_by s tables f =
    torus s (λ p x y. on_plane p (λ half level.
    bit_by_table s (torus s f) (setting_by half tables) (table_for half tables) level x y))
