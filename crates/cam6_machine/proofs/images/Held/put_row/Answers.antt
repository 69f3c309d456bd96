use Rattle.std.proofs.Common.{◌∙◌, ap, sym}
use Rattle.cam6_planes.specs.Cells.{cells, with_row}
use Rattle.cam6_planes.specs.Row.{byte_column}
use Rattle.cam6_planes.specs.Side.{side_number}
use Rattle.cam6_planes.specs.Stored.{Stored}
use Rattle.cam6_machine.specs.Internal.Images.{planes_of}
use Rattle.cam6_machine.proofs.images.Held.put_row.Goals as goal

pub returns-clause-cells : goal.returns-clause-cells
returns-clause-cells c =
    let same = c.planes_mut.ensures.value ∙ ap planes_of (sym c.in-Some.is) ∙ c.self.view_is in
    c.put_row.ensures.cells ∙
    ap (λ (v : Stored). with_row (side_number v.side) (cells v) c.args.p c.args.y
    (byte_column c.args.bits.now)) same
