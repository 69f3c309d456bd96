use Rattle.std.proofs.Common.{sym, subst}
use Rattle.cam6_planes.specs.Stored.{width}
use Rattle.cam6_band.specs.ByTables.{step_by, values_of}
use Rattle.cam6_band.specs.Partway.{Partway}
use Rattle.cam6_board.specs.Images.{planes_in, IsOnTheWay}
use Rattle.cam6_board.specs.declared.images.Image.{Image}
use Rattle.cam6_board.proofs.images.Image.go_on.Goals as goal

pub returns-in-Mid-clause-planes : goal.returns-in-Mid-clause-planes
returns-in-Mid-clause-planes c = λ yes o.
    let by = values_of c.args.tables.now in
    subst (λ (i : Image). IsOnTheWay o (step_by (width (planes_in i)) by o) i →
    Partway o (step_by (width (planes_in i)) by o) c.go_on.new.self) (sym c.in-Mid.is)
    (c.go_on.ensures.partway o)
