use Rattle.std.proofs.Common.{◌≡◌, ◌≤◌, ◌*◌}
use Rattle.cam6_planes.specs.Limits.{max_columns}
use Rattle.cam6_planes.specs.Cells.{cells}
use Rattle.cam6_planes.specs.Stored.{width}
use Rattle.cam6_view.specs.States.{state_at, is_in, count_below, sum_below}
use Rattle.cam6_view.proofs.counts.count.Given as goal

abbrev pub invariant-loop-y : goal.invariant-loop-y
invariant-loop-y l =
    let s = width l.rest.planes in
    let f = cells l.rest.planes in
    record {
      value : l.total ≡ sum_below (λ y. count_below (λ x. is_in l.mask (state_at f x y)) s) l.y;
      bound : l.total ≤ max_columns * l.y;
    }
