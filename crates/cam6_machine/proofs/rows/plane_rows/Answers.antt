use Rattle.std.proofs.Common.{◌≡◌, ◌∙◌, ap, sym, ◌/◌, ◌++◌, ◌∷◌, [], List, ℕ, arith}
use Rattle.cam6_planes.specs.Side.{side_number}
use Rattle.cam6_planes.specs.Stored.{width}
use Rattle.cam6_planes.specs.Cells.{cells}
use Rattle.cam6_model.specs.Effects.{plane_rows}
use Rattle.cam6_machine.proofs.PlaneTexts.{plane_rows-zero, plane_rows-suc}
use Rattle.cam6_machine.proofs.rows.plane_rows.Goals as goal

pub loop-y-init : goal.loop-y-init
loop-y-init c =
    c.in_ok-rows.ensures.items ∙
    sym (plane_rows-zero (width c.args.planes.now / 4) (cells c.args.planes.now) c.args.p)

pub loop-y-preserved : goal.loop-y-preserved
loop-y-preserved c =
    let n : ℕ = width c.args.planes.now / 4 in
    let f = cells c.args.planes.now in
    c.in_ok-push.ensures.items ∙
    ap (λ (rows : List (List ℕ)). rows ++ c.of.result ∷ []) c.loop-y.invariant ∙
    ap (λ row. plane_rows c.loop-y.y n f c.args.p ++ row ∷ []) c.of.ensures ∙
    sym (plane_rows-suc c.loop-y.y n f c.args.p)

pub returns : goal.returns
returns c =
    let s = width c.args.planes.now in
    let is = c.number-side.ensures.value ∙ ap side_number c.side.ensures.side in
    let all : c.loop-y.y ≡ s = omega (arith, is) in
    c.new.ensures ∙ c.loop-y.invariant
    ∙ ap (λ k. plane_rows k (s / 4) (cells c.args.planes.now) c.args.p) all
