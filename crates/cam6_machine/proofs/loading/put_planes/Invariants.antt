use Rattle.std.proofs.Common.{◌≡◌}
use Rattle.cam6_planes.specs.Cells.{cells}
use Rattle.cam6_planes.specs.Side.{side_number}
use Rattle.cam6_model.proofs.RowsPut.{planes_put}
use Rattle.cam6_machine.proofs.loading.put_planes.Given as goal

abbrev pub invariant-loop-p : goal.invariant-loop-p
invariant-loop-p l = record {
  cells : cells l.planes ≡ planes_put (side_number l.fn.side) l.p l.rows;
  side : l.planes.side ≡ l.fn.side;
  limit : l.planes.limit ≡ l.fn.planes.limit;
}
