use Rattle.std.proofs.Common.{sym, ◌∙◌}
use Rattle.cam6_planes.specs.Side.{side_number}
use Rattle.cam6_planes.proofs.CellsAt.{torus_at}
use Rattle.cam6_wiring.specs.Seen.{column_beside, row_beside}
use Rattle.cam6_wiring.proofs.RowsBeside.{column_beside-lt, row_beside-lt}
use Rattle.cam6_wiring.proofs.rows.put_beside.Goals as goal

pub returns : goal.returns
returns c = λ f y around h x l.
    let s = side_number c.args.rows.now.side in
    let compass = c.args.compass in
    let there = column_beside s compass x in
    let within = column_beside-lt s compass x l in
    c.put_columns_beside.ensures x l ∙
    c.row_beside.ensures f y around c.args.p there c.requires.plane within ∙
    sym (torus_at s f c.args.p there (row_beside s compass y) c.requires.plane within
    (row_beside-lt s compass y h))
