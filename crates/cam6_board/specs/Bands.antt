-- What one band does to a job.
use Rattle.std.specs.Prelude.{ℕ, zero, suc, ◌≡◌, ◌+◌, List, length, Option, Some}
use Rattle.cam6_planes.specs.Cells.{Cells}
use Rattle.cam6_planes.specs.Stored.{width}
use Rattle.cam6_cycle.specs.Along.{entry_index, position_after}
use Rattle.cam6_band.specs.AtPosition.{step_tables_at}
use Rattle.cam6_band.specs.ByTables.{StepTables, step_by}
use Rattle.cam6_board.specs.declared.boards.BandEnd.{BandEnd}
use Rattle.cam6_board.specs.declared.boards.BandEnd.TheVariants.{Inside, StepEnd, LastEnd}
use Rattle.cam6_board.specs.declared.images.Image.{Image}
use Rattle.cam6_board.specs.declared.images.Image.TheVariants.{Rest, Mid}
use Rattle.cam6_board.specs.Images.{planes_in, IsOnTheWay, IsAfterBand, GoesOn}
use Rattle.cam6_board.specs.Jobs.{StoredJob}

-- the tables that the step of a job uses, among tables that lie as its cycle needs them
abbrev pub step_of : StoredJob → List (List ℕ) → Option StepTables
step_of job tables =
    step_tables_at job.cycle (entry_index job.direction (length job.cycle) job.position) tables

-- how a step ends, with so many steps still to be done
abbrev pub end_of : ℕ → BandEnd
end_of zero = LastEnd
end_of (suc steps) = StepEnd

-- within a step the position and the steps stay; after it the position has moved by one, and one
-- step less is to be done
abbrev pub Counts : Image → StoredJob → BandEnd → StoredJob → Type 0
Counts (Mid mid) before end after =
    (end ≡ Inside) × (after.position ≡ before.position) × (after.steps ≡ before.steps)
Counts (Rest rest) before end after =
    (end ≡ end_of after.steps)
    × (after.position ≡ position_after before.direction (length before.cycle) before.position)
    × (after.steps + 1 ≡ before.steps)

-- a band moves a job by sixteen rows of the step by its tables, from whatever planes the step began
pub record Moves (tables : List (List ℕ)) (before : StoredJob) (end : BandEnd) (after : StoredJob) :
    Type 0 where
  pub cycle : after.cycle ≡ before.cycle
  pub direction : after.direction ≡ before.direction
  pub goes_on : GoesOn before.image after.image
  pub counts : Counts after.image before end after
  pub planes : (o : Cells) (step : StepTables) → step_of before tables ≡ Some step →
      IsOnTheWay o (step_by (width (planes_in before.image)) step o) before.image →
      IsAfterBand o (step_by (width (planes_in before.image)) step o) after.image
