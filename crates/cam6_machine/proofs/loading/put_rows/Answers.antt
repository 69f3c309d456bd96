use Rattle.std.proofs.Common.{◌≡◌, ◌∙◌, ap, [], length, arith, List, ℕ}
use Rattle.std.proofs.lemmas.List.{get_or_default}
use Rattle.cam6_planes.specs.Row.{byte_column}
use Rattle.cam6_planes.specs.Side.{side_number}
use Rattle.cam6_planes.specs.Stored.{width}
use Rattle.cam6_planes.specs.Cells.{cells, with_row}
use Rattle.cam6_machine.specs.Internal.Loading.{with_rows}
use Rattle.cam6_model.proofs.RowsPut.{with_rows-more}
use Rattle.cam6_model.proofs.StepsOfATorus.{side_some}
use Rattle.cam6_machine.proofs.loading.put_rows.Goals as goal

pub loop-y-preserved : goal.loop-y-preserved
loop-y-preserved c =
    let s = width c.args.planes.now in
    let old = cells c.args.planes.now in
    let rows = c.args.rows.now in
    let p = c.args.p in
    let y = c.loop-y.y in
    let same : width c.loop-y.planes ≡ s = ap side_number c.loop-y.invariant.side in
    let row = c.as_slice.ensures ∙ c.index-rows-y.is
    ∙ get_or_default rows y c.index-rows-y.result [] c.loop-y-test.true in
    record {
      cells = c.put_row.ensures.cells
          ∙ ap (λ n. with_row n (cells c.loop-y.planes) p y (byte_column c.as_slice.result.now)) same
          ∙ ap (λ f. with_row s f p y (byte_column c.as_slice.result.now)) c.loop-y.invariant.cells
          ∙ ap (λ (l : List ℕ). with_row s (with_rows s old p y rows) p y (byte_column l)) row
          ∙ with_rows-more s old p y rows (side_some c.args.planes.now.side);
      side = c.put_row.ensures.side ∙ c.loop-y.invariant.side;
      limit = c.put_row.ensures.limit ∙ c.loop-y.invariant.limit;
    }

pub returns-clause-cells : goal.returns-clause-cells
returns-clause-cells c =
    let all : c.loop-y.y ≡ length c.args.rows.now = omega (arith, c.loop-y.auto.y-end) in
    c.loop-y.invariant.cells
    ∙ ap (λ n. with_rows (width c.args.planes.now) (cells c.args.planes.now) c.args.p n
    c.args.rows.now) all
