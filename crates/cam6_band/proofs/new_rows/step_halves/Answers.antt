use Rattle.std.proofs.Common.{◌≡◌, ◌+◌, ◌<◌, ◌∙◌, ap, sym, arith, subst}
use Rattle.cam6_planes.specs.Cells.{cells}
use Rattle.cam6_planes.specs.Side.{side_number}
use Rattle.cam6_planes.specs.Stored.{width}
use Rattle.cam6_wiring.specs.Name.{plane_of, other_half}
use Rattle.cam6_wiring.specs.declared.names.Half.TheVariants.{A}
use Rattle.cam6_wiring.specs.declared.neighbours.Setting.{Setting}
use Rattle.cam6_entries.specs.Bands.{ShowNewBits}
use Rattle.cam6_band.specs.ByTables.{setting_by, values_of}
use Rattle.cam6_band.specs.Internal.HalfRows.{rows_of}
use Rattle.cam6_band.proofs.HalfPlanes.{plane-lt}
use Rattle.cam6_band.proofs.NewBits.{are_new}
use Rattle.cam6_band.proofs.new_rows.step_halves.Goals as goal

pub returns-clause-a : goal.returns-clause-a
returns-clause-a c = λ f old level x r h k.
    let a = c.args in
    let s = width a.image.now in
    let band = c.old_rows-old in
    let between = c.step_half.new.image in
    let same : width between ≡ s = ap side_number c.step_half.ensures.side in
    let within : a.y + r < s = omega (arith, k, c.requires) in
    let rows = rows_of level c.make.new.self in
    let show = subst (λ setting. ShowNewBits a.by.now.table.now f band.result setting a.by.now.hood
    a.by.now.minor level rows.is_written rows.rows) c.setting-a.ensures
    (c.make.ensures f (band.ensures.rows f old) level) in
    let stay = subst (λ (setting : Setting). cells between
    (plane_of (other_half setting.half) level) x (a.y + r)
    ≡ cells a.image.now (plane_of (other_half setting.half) level) x (a.y + r)) c.setting-b.ensures
    (c.step_half.ensures.other_half level x (a.y + r) h within) in
    are_new s f (cells between) (cells c.put.new.image) a.by.now.table.now
    (setting_by A (values_of a.tables.now)) a.by.now.hood a.by.now.minor level a.y band.result
    between.side rows x r (ap side_number band.ensures.side)
    (band.ensures.side ∙ sym c.step_half.ensures.side) band.ensures.first h k
    show
    (c.put.ensures.half level x r (omega (arith, h, same)) k)
    (stay ∙ old.rows (plane_of A level) x (a.y + r) (plane-lt A level) h (omega arith) within)
