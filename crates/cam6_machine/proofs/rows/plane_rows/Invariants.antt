use Rattle.std.proofs.Common.{◌≡◌, ◌/◌}
use Rattle.cam6_planes.specs.Stored.{width}
use Rattle.cam6_planes.specs.Cells.{cells}
use Rattle.cam6_model.specs.Effects.{plane_rows}
use Rattle.cam6_machine.proofs.rows.plane_rows.Given as goal

abbrev pub invariant-loop-y : goal.invariant-loop-y
invariant-loop-y l =
    l.rows.items ≡ plane_rows l.y (width l.planes / 4) (cells l.planes) l.p
