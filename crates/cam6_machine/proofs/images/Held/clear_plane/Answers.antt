use Rattle.std.proofs.Common.{◌∙◌, ap, sym}
use Rattle.cam6_planes.specs.Cells.{cells, without_plane}
use Rattle.cam6_planes.specs.Side.{side_number}
use Rattle.cam6_planes.specs.Stored.{Stored}
use Rattle.cam6_machine.specs.Internal.Images.{planes_of}
use Rattle.cam6_machine.proofs.images.Held.clear_plane.Goals as goal

pub returns-clause-cells : goal.returns-clause-cells
returns-clause-cells c =
    let same = c.planes_mut.ensures.value ∙ ap planes_of (sym c.in-Some.is) ∙ c.self.view_is in
    c.clear_plane.ensures.cells ∙
    ap (λ (v : Stored). without_plane (side_number v.side) (cells v) c.args.p) same
