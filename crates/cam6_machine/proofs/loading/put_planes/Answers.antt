use Rattle.std.proofs.Common.{◌≡◌, ◌∙◌, sym, ap, [], get_or, length, arith, List, ℕ}
use Rattle.std.proofs.lemmas.List.{get_or_default}
use Rattle.cam6_planes.specs.Side.{side_number}
use Rattle.cam6_planes.specs.Cells.{cells}
use Rattle.cam6_machine.specs.Internal.Loading.{with_rows}
use Rattle.cam6_model.proofs.RowsPut.{planes_put, planes_put-none, planes_put-more}
use Rattle.cam6_model.proofs.RowsPut.{planes_put-all, plane_at, rows_long}
use Rattle.cam6_model.proofs.Staying.{none_whole}
use Rattle.cam6_model.proofs.StepsOfATorus.{side_some}
use Rattle.cam6_machine.proofs.loading.put_planes.Goals as goal

pub loop-p-init : goal.loop-p-init
loop-p-init c =
    let s = side_number c.args.side in
    record {
      cells = c.set_side.ensures.cells ∙ sym (none_whole s)
          ∙ sym (planes_put-none s c.args.rows.now (side_some c.args.side));
      side = c.set_side.ensures.side;
      limit = c.set_side.ensures.limit;
    }

pub loop-p-preserved : goal.loop-p-preserved
loop-p-preserved c =
    let s = side_number c.args.side in
    let all = c.args.rows.now in
    let p = c.loop-p.p in
    let four = c.type_inv.rows in
    let rows = c.as_slice.ensures
    ∙ get_or_default all p c.index-rows-p.result [] (omega (arith, c.loop-p-test.true, four)) in
    record {
      cells = c.put_rows.ensures.cells
          ∙ ap (λ n. with_rows n (cells c.loop-p.planes) p (length c.as_slice.result.now)
          c.as_slice.result.now) (ap side_number c.loop-p.invariant.side)
          ∙ ap (λ f. with_rows s f p (length c.as_slice.result.now) c.as_slice.result.now)
          c.loop-p.invariant.cells
          ∙ ap (λ (l : List (List ℕ)). with_rows s (planes_put s p all) p (length l) l) rows
          ∙ planes_put-more s p all (side_some c.args.side)
          (rows_long s (get_or all p []) (plane_at s p all c.requires.rows c.loop-p-test.true));
      side = c.put_rows.ensures.side ∙ c.loop-p.invariant.side;
      limit = c.put_rows.ensures.limit ∙ c.loop-p.invariant.limit;
    }

pub returns-clause-cells : goal.returns-clause-cells
returns-clause-cells c =
    let s = side_number c.args.side in
    let all : c.loop-p.p ≡ 4 = omega (arith, c.loop-p-test.false, c.loop-p.auto.p-end) in
    c.loop-p.invariant.cells ∙ ap (λ n. planes_put s n c.args.rows.now) all
    ∙ planes_put-all s c.args.rows.now (side_some c.args.side)
