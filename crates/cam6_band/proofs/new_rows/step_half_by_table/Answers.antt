use Rattle.std.proofs.Common.{◌+◌, ap, arith}
use Rattle.cam6_planes.specs.Side.{side_number}
use Rattle.cam6_planes.specs.Cells.{cells}
use Rattle.cam6_planes.specs.Stored.{width}
use Rattle.cam6_wiring.specs.Name.{plane_of}
use Rattle.cam6_band.specs.Internal.HalfRows.{rows_of}
use Rattle.cam6_band.proofs.HalfPlanes.{plane-lt}
use Rattle.cam6_band.proofs.NewBits.{are_new}
use Rattle.cam6_band.proofs.new_rows.step_half_by_table.Goals as goal

pub returns-clause-new : goal.returns-clause-new
returns-clause-new c = λ f old level x r h k.
    let a = c.args in
    let s = width a.image.now in
    let band = c.old_rows-old in
    are_new s f (cells a.image.now) (cells c.put.new.image) a.by.now.table.now a.setting.now
    a.by.now.hood a.by.now.minor level a.y band.result a.image.now.side
    (rows_of level c.make.new.self) x r (ap side_number band.ensures.side) band.ensures.side
    band.ensures.first h k (c.make.ensures f (band.ensures.rows f old) level)
    (c.put.ensures.half level x r h k)
    (old.rows (plane_of a.setting.now.half level) x (a.y + r) (plane-lt a.setting.now.half level) h
    (omega arith) (omega (arith, k, c.requires)))
