use Rattle.std.proofs.Common.{◌-◌}
use Rattle.cam6_planes.specs.Cells.{cells}
use Rattle.cam6_planes.specs.Stored.{width, AreAlike}
use Rattle.cam6_band.specs.ByTables.{step_by, values_of}
use Rattle.cam6_band.specs.Partway.{Partway}
use Rattle.cam6_machine.proofs.steps.step.Given as goal

abbrev pub invariant-loop-mid : goal.invariant-loop-mid
invariant-loop-mid l = record {
  alike : AreAlike l.fn.image.planes l.mid.planes;
  partway : let old = l.fn.image.planes in
      Partway (cells old) (step_by (width old) (values_of l.tables) (cells old)) l.mid;
}

abbrev pub decreases-loop-mid : goal.decreases-loop-mid
decreases-loop-mid l = width l.mid.planes - l.mid.done
