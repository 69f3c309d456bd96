use Rattle.std.proofs.Common.{◌≡◌, ℕ, ◌<◌, ◌*◌, ◌∙◌, ap, refl, arith}
use Rattle.cam6_planes.specs.Cells.{cells}
use Rattle.cam6_planes.specs.Side.{side_number}
use Rattle.cam6_planes.specs.Stored.{width}
use Rattle.cam6_view.specs.States.{is_in, state_at, count_below}
use Rattle.cam6_view.specs.Internal.{state_in_row}
use Rattle.cam6_view.proofs.CountsBelow.{sum_below-none, one_row}
use Rattle.cam6_view.proofs.StatesOfRows.{state_of_row}
use Rattle.cam6_view.proofs.counts.count.Goals as goal

pub loop-y-init : goal.loop-y-init
loop-y-init c = record { value = sum_below-none _; bound = omega arith }

pub loop-y-preserved : goal.loop-y-preserved
loop-y-preserved c =
    let s : ℕ = width c.args.rest.now.planes in
    let f = cells c.args.rest.now.planes in
    let mask : ℕ = c.args.mask in
    let y : ℕ = c.loop-y.y in
    let rows = c.row.result.now in
    let row = c.count_in_row-total in
    let whole : 64 * c.words.result ≡ s =
    c.words.ensures.value ∙
    ap side_number (c.side-side.ensures.side ∙ ap (λ v. v.side) c.planes-planes.ensures) in
    let shown = c.planes-planes.result.now in
    let here : (x : ℕ) → x < s → state_in_row rows x ≡ state_at f x y =
    λ x h.
    let within : x < width shown = rw c.planes-planes.ensures h in
    state_of_row (width shown) (cells shown) y rows c.row.ensures x within ∙
    ap (λ v. state_at (cells v) x y) c.planes-planes.ensures in
    record {
      value =
          one_row (λ v. count_below (λ x. is_in mask (state_at f x v)) s)
          (λ x. is_in mask (state_in_row rows x)) (λ x. is_in mask (state_at f x y))
          c.loop-y.total row.result y s (64 * c.words.result) c.loop-y.invariant.value
          (row.ensures.value mask c.spread-sets.ensures) whole refl
          (λ x h. ap (is_in mask) (here x h));
      bound = omega (arith, c.loop-y.invariant.bound, row.ensures.bound, c.words.ensures.most);
    }
