use Rattle.std.proofs.Common.{◌≡◌, ◌/◌}
use Rattle.cam6_planes.specs.Stored.{width}
use Rattle.cam6_planes.specs.Cells.{cells}
use Rattle.cam6_model.proofs.SavedPlanes.{first_bytes}
use Rattle.cam6_machine.proofs.saving.plane_bits.Given as goal

abbrev pub invariant-loop-y : goal.invariant-loop-y
invariant-loop-y l =
    l.rows.items ≡ first_bytes l.y (width l.planes / 8) (cells l.planes) l.p
