use Rattle.std.proofs.Common.{◌≡◌}
use Rattle.cam6_planes.specs.Cells.{cells}
use Rattle.cam6_planes.specs.Stored.{width}
use Rattle.cam6_machine.specs.Internal.Loading.{with_rows}
use Rattle.cam6_machine.proofs.loading.put_rows.Given as goal

abbrev pub invariant-loop-y : goal.invariant-loop-y
invariant-loop-y l = record {
  cells : cells l.planes ≡ with_rows (width l.fn.planes) (cells l.fn.planes) l.p l.y l.rows;
  side : l.planes.side ≡ l.fn.planes.side;
  limit : l.planes.limit ≡ l.fn.planes.limit;
}
