use Rattle.std.proofs.Common.{◌≡◌, ◌∙◌, ap, sym, ◌/◌, ◌++◌, ◌∷◌, [], List, ℕ, arith}
use Rattle.cam6_planes.specs.Side.{side_number}
use Rattle.cam6_planes.specs.Stored.{width}
use Rattle.cam6_planes.specs.Cells.{cells}
use Rattle.cam6_model.proofs.SavedPlanes.{first_bytes, first_bytes-zero, first_bytes-suc}
use Rattle.cam6_model.proofs.SavedPlanes.{first_bytes-all}
use Rattle.cam6_machine.proofs.saving.plane_bits.Goals as goal

pub loop-y-init : goal.loop-y-init
loop-y-init c =
    c.in_ok-rows.ensures.items ∙
    sym (first_bytes-zero (width c.args.planes.now / 8) (cells c.args.planes.now) c.args.p)

pub loop-y-preserved : goal.loop-y-preserved
loop-y-preserved c =
    let n : ℕ = width c.args.planes.now / 8 in
    let f = cells c.args.planes.now in
    c.in_ok-push.ensures.items ∙
    ap (λ (rows : List (List ℕ)). rows ++ c.row_bits.result ∷ []) c.loop-y.invariant ∙
    ap (λ row. first_bytes c.loop-y.y n f c.args.p ++ row ∷ []) c.row_bits.ensures ∙
    sym (first_bytes-suc c.loop-y.y n f c.args.p)

pub returns : goal.returns
returns c =
    let s = width c.args.planes.now in
    let f = cells c.args.planes.now in
    let is = c.number-side.ensures.value ∙ ap side_number c.side.ensures.side in
    let all : c.loop-y.y ≡ s = omega (arith, is) in
    c.new.ensures ∙ c.loop-y.invariant ∙ ap (λ k. first_bytes k (s / 8) f c.args.p) all
    ∙ first_bytes-all s f c.args.p
