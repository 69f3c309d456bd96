use Rattle.std.proofs.Common.{◌≡◌, subst}
use Rattle.cam6_planes.specs.Cells.{Cells, cells}
use Rattle.cam6_band.specs.Partway.{Partway}
use Rattle.cam6_board.specs.Images.{IsOnTheWay}
use Rattle.cam6_board.proofs.images.Image.into_step.Goals as goal

pub returns-in-Rest-clause-partway : goal.returns-in-Rest-clause-partway
returns-in-Rest-clause-partway c = λ o p is.
    let here : cells c.in-Rest.image.planes ≡ o = subst (IsOnTheWay o p) c.in-Rest.is is in
    subst (λ (f : Cells). Partway f p c.begin.result) here (c.begin.ensures.partway p)
