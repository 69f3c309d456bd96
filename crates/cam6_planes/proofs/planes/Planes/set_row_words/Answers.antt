use Rattle.std.proofs.Common.{◌≡◌, ◌<◌, ◌≤◌, [], length, get_or, set, arith, ap, ◌∙◌}
use Rattle.std.proofs.lemmas.List.{get_or_read}
use Rattle.cam6_planes.specs.Row.{column_bit}
use Rattle.cam6_planes.specs.Side.{side_number}
use Rattle.cam6_planes.specs.Stored.{Stored}
use Rattle.cam6_planes.specs.Cells.{cells, torus, stored_bit, with_row}
use Rattle.cam6_planes.proofs.CellsAt.{cells-set}
use Rattle.cam6_planes.proofs.SideNumbers.{side_least}
use Rattle.cam6_planes.proofs.planes.Planes.set_row_words.Goals as goal

pub returns-clause-cells : goal.returns-clause-cells
returns-clause-cells c =
    let rows = c.self.inside.rows in
    let s = side_number c.self.inside.side in
    let some : 0 < s = omega (arith, side_least c.self.inside.side) in
    let side : s ≡ side_number c.args.self.now.side =
    ap (λ (v : Stored). side_number v.side) c.self.view_is in
    let long : s ≤ length rows.items = omega (arith, rows.ok.0, c.self.invariant) in
    let read : c.index_mut.result.now ≡ get_or rows.items c.args.y [] =
    get_or_read rows.items c.args.y c.index_mut.result.now
    (omega arith) c.index_mut.ensures.value [] in
    let planes : c.args.p < length (get_or rows.items c.args.y []) =
    rw (← read) (omega (arith, c.set_plane_row.ensures.planes)) in
    ap (λ r. torus s (stored_bit (set rows.items c.args.y r))) (c.set_plane_row.ensures.value ∙
    ap (λ r. set r c.args.p c.args.words) read) ∙
    cells-set s rows.items c.args.p c.args.y c.args.words some (omega arith) planes ∙
    ap (λ v. with_row (side_number v.side) (cells v) c.args.p c.args.y (column_bit c.args.words))
    c.self.view_is
