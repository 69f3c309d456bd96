use Rattle.std.proofs.Common.{arith, ap, ◌∙◌}
use Rattle.cam6_planes.specs.Row.{column_bit, byte_column}
use Rattle.cam6_planes.specs.Side.{side_number}
use Rattle.cam6_planes.specs.Stored.{Stored}
use Rattle.cam6_planes.specs.Cells.{cells}
use Rattle.cam6_planes.proofs.CellsAt.{with_row-same}
use Rattle.cam6_planes.proofs.planes.Planes.put_row.Goals as goal

pub returns-clause-cells : goal.returns-clause-cells
returns-clause-cells c =
    let side = ap (λ (v : Stored). side_number v.side) c.self.view_is in
    c.set_row_words.ensures.cells ∙
    with_row-same (side_number c.args.self.now.side) (cells c.args.self.now) c.args.p c.args.y
    (column_bit c.row_of_bytes.result) (byte_column c.args.bits.now) (omega (arith, side))
    (λ x h. c.row_of_bytes.ensures x (omega (arith, side)))
