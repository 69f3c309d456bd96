use Rattle.std.proofs.Common.{sym, subst}
use Rattle.cam6_band.specs.Partway.{Partway}
use Rattle.cam6_band.proofs.Further.{moved}
use Rattle.cam6_band.proofs.bands.MidStep.move_into.Goals as goal

pub returns-clause-partway : goal.returns-clause-partway
returns-clause-partway c = λ o p part.
    let m = c.self.inside in
    moved o p m.image c.copy_from.new.self m.first m.last m.done c.copy_from.ensures.cells
    c.copy_from.ensures.side (subst (Partway o p) (sym c.self.view_is) part)
