use Rattle.std.proofs.Common.{ℕ, ◌+◌, arith, ap, subst}
use Rattle.cam6_planes.specs.Side.{side_number}
use Rattle.cam6_patterns.specs.Placing.{placed}
use Rattle.cam6_patterns.specs.Outcome.{lines_of_row}
use Rattle.cam6_patterns.proofs.Fronts.{Written, nothing_written, more_written, some_written}
use Rattle.cam6_patterns.proofs.Fronts.{front_at_fault, all_written}
use Rattle.cam6_patterns.proofs.LinesOfRows.{rows_from, all_rows, next_row, no_row}
use Rattle.cam6_patterns.proofs.placing.write_placed.Goals as goal

pub loop-y-init : goal.loop-y-init
loop-y-init g c =
    let side : ℕ = side_number c.args.side in
    let old = g.W.Write.contents c.args.writer.now in
    let all = placed side c.args.column c.args.row c.args.planes.now c.args.pattern.now in
    subst (λ rest. Written old old all rest)
    (all_rows side c.args.column c.args.row c.args.planes.now c.args.pattern.now)
    (nothing_written old all)

pub returns-in_err-write_row : goal.returns-in_err-write_row
returns-in_err-write_row g c =
    let side : ℕ = side_number c.args.side in
    let p = c.args.pattern.now in
    let first : ℕ = c.args.column + c.pattern.inside.column in
    let top : ℕ = c.args.row + c.pattern.inside.row in
    front_at_fault _ _ _ c.from_residual.result c.from_residual.ensures.0
    (some_written _ _ _ (lines_of_row side first top p c.loop-y.y 0 c.args.planes.now)
    (rows_from side c.args.column c.args.row c.args.planes.now p (c.loop-y.y + 1)) _
    c.loop-y.invariant
    (next_row side c.args.column c.args.row c.args.planes.now p c.loop-y.y first top
    (ap (λ q. c.args.column + q.column) c.pattern.view_is)
    (ap (λ q. c.args.row + q.row) c.pattern.view_is)
    (omega (arith, c.loop-y-test.true, ap (λ q. q.height) c.pattern.view_is)))
    _ c.in_err-write_row.ensures)

pub loop-y-preserved : goal.loop-y-preserved
loop-y-preserved g c =
    let side : ℕ = side_number c.args.side in
    let p = c.args.pattern.now in
    let first : ℕ = c.args.column + c.pattern.inside.column in
    let top : ℕ = c.args.row + c.pattern.inside.row in
    more_written _ _ _ (lines_of_row side first top p c.loop-y.y 0 c.args.planes.now)
    (rows_from side c.args.column c.args.row c.args.planes.now p (c.loop-y.y + 1)) _
    c.loop-y.invariant
    (next_row side c.args.column c.args.row c.args.planes.now p c.loop-y.y first top
    (ap (λ q. c.args.column + q.column) c.pattern.view_is)
    (ap (λ q. c.args.row + q.row) c.pattern.view_is)
    (omega (arith, c.loop-y-test.true, ap (λ q. q.height) c.pattern.view_is)))
    _ c.in_ok-write_row.ensures

pub returns : goal.returns
returns g c =
    all_written _ _ _ _ c.loop-y.invariant
    (no_row (side_number c.args.side) c.args.column c.args.row c.args.planes.now
    c.args.pattern.now c.loop-y.y
    (omega (arith, c.loop-y-test.false, ap (λ q. q.height) c.pattern.view_is)))
