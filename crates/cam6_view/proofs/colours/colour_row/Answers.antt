use Rattle.std.proofs.Common.{◌≡◌, ℕ, ◌+◌, ◌<◌, ◌∙◌, ap, refl, sym, arith, get_or, drop}
use Rattle.std.proofs.Common.{length-set, drop-drop, drop-set-lt}
use Rattle.cam6_planes.specs.Cells.{cells}
use Rattle.cam6_planes.specs.Side.{side_number}
use Rattle.cam6_planes.specs.Stored.{width}
use Rattle.cam6_view.specs.States.{state_at}
use Rattle.cam6_view.proofs.StatesOfRows.{state_of_row, no_colours, one_colour}
use Rattle.cam6_view.proofs.colours.colour_row.Goals as goal

pub loop-x-init : goal.loop-x-init
loop-x-init c =
    record { room = omega (arith, c.fits-colours); value = no_colours _ _ _; past = refl }

pub loop-x-preserved : goal.loop-x-preserved
loop-x-preserved c =
    let map_of_states = c.args.map.now in
    let f = cells c.args.rest.now.planes in
    let shown = c.planes-planes.result.now in
    let y : ℕ = c.args.y in
    let x : ℕ = c.loop-x.x in
    let colours = c.loop-x.colours in
    let state : ℕ = c.state_in_row.result in
    let colour : ℕ = get_or map_of_states state 0 in
    let side = c.number-side.ensures.value ∙ ap side_number c.side.ensures.side in
    let within : x < width shown = omega (arith, side, c.loop-x-test.true) in
    let here : state ≡ state_at f x y =
    c.state_in_row.ensures.value ∙
    state_of_row (width shown) (cells shown) y c.row-rows.result.now c.row-rows.ensures x within ∙
    ap (λ v. state_at (cells v) x y) c.planes-planes.ensures in
    record {
      room = length-set _ _ _ ∙ c.loop-x.invariant.room;
      value = one_colour map_of_states f y x colour colours (omega (arith, c.loop-x.invariant.room))
          c.loop-x.invariant.value (ap (λ n. get_or map_of_states n 0) here);
      past =
          drop-set-lt (x + 1) colours x colour (omega arith) ∙ sym (drop-drop 1 x colours) ∙
          ap (drop 1) c.loop-x.invariant.past ∙ drop-drop 1 x c.args.colours.now;
    }
