-- Planes that are lent by the image that shows them.
use Rattle.std.specs.Borrow.{MutBor, Fml, Lends}
use Rattle.cam6_planes.specs.Stored.{Stored}
use Rattle.cam6_planes.specs.contracts.planes.Planes.{the_row as planes_row}
use Rattle.cam6_band.specs.declared.images.AtRest.{AtRest}
use Rattle.cam6_band.specs.contracts.images.AtRest.{the_row}

-- the image shows, from the end of the loan on, the planes as they are left then
abbrev pub LendsPlanes : MutBor AtRest → MutBor Stored → Fml
LendsPlanes image planes =
    Lends the_row planes_row image planes (λ left. record image.now { planes = left })
