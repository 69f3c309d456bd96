use Rattle.std.proofs.Common.{◌∙◌, ap, sym, arith, List, ℕ, [], get_or, set, length, replicate}
use Rattle.std.proofs.lemmas.List.{with_items_is}
use Rattle.cam6_planes.specs.Side.{side_number}
use Rattle.cam6_planes.specs.Cells.{cells, torus, stored_bit, without_plane}
use Rattle.cam6_planes.specs.Stored.{Stored}
use Rattle.cam6_planes.proofs.Blank.{cells-cleared}
use Rattle.cam6_planes.proofs.SideNumbers.{side_least}
use Rattle.cam6_planes.specs.declared.row.TheConstants.{WORDS}
use Rattle.cam6_planes.proofs.planes.Planes.clear_plane.Goals as goal

pub returns-clause-cells : goal.returns-clause-cells
returns-clause-cells c =
    let s = side_number c.self.inside.side in
    let rows = c.self.inside.rows in
    ap (λ rows. torus s (stored_bit rows))
    (with_items_is rows c.clear_rows.new.rows (omega (arith, rows.ok.0))) ∙
    cells-cleared s rows.items c.clear_rows.new.rows c.args.p
    (omega (arith, side_least c.self.inside.side)) (omega arith)
    (λ y h. ap (λ (all : List (List (List ℕ))). length (get_or all y [])) (sym c.deref_mut.ensures.value) ∙
    c.clear_rows.ensures.planes y (omega (arith, rows.ok.0, c.self.invariant)))
    (λ y h. c.clear_rows.ensures.value y (omega (arith, rows.ok.0, c.self.invariant)) ∙
    ap (λ (all : List (List (List ℕ))). set (get_or all y []) c.args.p (replicate WORDS 0))
    c.deref_mut.ensures.value) ∙
    ap (λ (v : Stored). without_plane (side_number v.side) (cells v) c.args.p) c.self.view_is
