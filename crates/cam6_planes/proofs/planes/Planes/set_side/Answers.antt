use Rattle.std.proofs.Common.{◌∙◌, ap, arith}
use Rattle.std.proofs.lemmas.List.{with_items_is}
use Rattle.cam6_planes.specs.Side.{side_number}
use Rattle.cam6_planes.specs.Stored.{Stored}
use Rattle.cam6_planes.specs.Cells.{torus, stored_bit}
use Rattle.cam6_planes.proofs.Blank.{stored_bit-zeros}
use Rattle.cam6_planes.proofs.SideNumbers.{side_least}
use Rattle.cam6_planes.specs.declared.row.TheConstants.{WORDS}
use Rattle.cam6_planes.proofs.planes.Planes.set_side.Goals as goal

pub returns-clause-cells : goal.returns-clause-cells
returns-clause-cells c =
    let s = side_number c.args.side in
    let limit = ap (λ (v : Stored). side_number v.limit) c.self.view_is in
    ap (λ rows. torus s (stored_bit rows))
    (with_items_is c.self.inside.rows c.clear.new.rows (omega (arith, c.self.inside.rows.ok.0))) ∙
    stored_bit-zeros s WORDS c.clear.new.rows (omega (arith, side_least c.args.side))
    (λ y h. c.clear.ensures y (omega (arith, limit, c.self.inside.rows.ok.0)))
