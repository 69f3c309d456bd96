use Rattle.std.proofs.Common.{◌≡◌, subst}
use Rattle.cam6_planes.specs.Cells.{cells}
use Rattle.cam6_planes.specs.Side.{side_number}
use Rattle.cam6_planes.specs.declared.sides.Side.{Side}
use Rattle.cam6_band.specs.ByTables.{step_by, values_of}
use Rattle.cam6_band.specs.Partway.{Partway}
use Rattle.cam6_board.specs.Images.{planes_in}
use Rattle.cam6_board.proofs.images.Image.band.Goals as goal

pub returns-in-More-clause-planes : goal.returns-in-More-clause-planes
returns-in-More-clause-planes c = λ o is.
    let by = values_of c.args.tables.now in
    let step = c.into_step.result in
    subst (λ (s : Side). Partway o (step_by (side_number s) by o) step →
    Partway o (step_by (side_number s) by o) c.in-More.step) c.into_step.ensures.alike.side
    (c.in-More.ensures.next o)
    (c.into_step.ensures.partway o (step_by (side_number (planes_in c.args.self).side) by o) is)

pub returns-in-Whole-clause-planes : goal.returns-in-Whole-clause-planes
returns-in-Whole-clause-planes c = λ o is.
    let by = values_of c.args.tables.now in
    let step = c.into_step.result in
    subst (λ (s : Side). Partway o (step_by (side_number s) by o) step →
    cells c.in-Whole.image.planes ≡ step_by (side_number s) by o) c.into_step.ensures.alike.side
    (c.in-Whole.ensures.next o)
    (c.into_step.ensures.partway o (step_by (side_number (planes_in c.args.self).side) by o) is)
