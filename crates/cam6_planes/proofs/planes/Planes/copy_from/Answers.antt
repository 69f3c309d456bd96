use Rattle.std.proofs.Common.{◌∙◌, [], get_or, arith, ap}
use Rattle.std.proofs.lemmas.List.{with_items_is}
use Rattle.cam6_planes.specs.Side.{side_number}
use Rattle.cam6_planes.specs.Cells.{cells, torus, stored_bit}
use Rattle.cam6_planes.proofs.Blank.{rows-same}
use Rattle.cam6_planes.proofs.SideNumbers.{side_least}
use Rattle.cam6_planes.proofs.planes.Planes.copy_from.Goals as goal

pub returns-clause-cells : goal.returns-clause-cells
returns-clause-cells c =
    let s = side_number c.other.inside.side in
    let rows = c.copy_rows.new.to in
    ap (λ rows. torus s (stored_bit rows))
    (with_items_is c.self.inside.rows rows (omega (arith, c.self.inside.rows.ok.0))) ∙
    rows-same s rows c.other.inside.rows.items (omega (arith, side_least c.other.inside.side))
    (λ y h. c.copy_rows.ensures y (omega arith)
    ∙ ap (λ rows. get_or rows y []) c.deref.ensures.value) ∙
    ap cells c.other.view_is
