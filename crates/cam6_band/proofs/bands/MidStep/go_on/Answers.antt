use Rattle.cam6_band.specs.ByTables.{values_of}
use Rattle.cam6_band.proofs.Further.{a_band, band_made}
use Rattle.cam6_band.proofs.bands.MidStep.go_on.Goals as goal

pub returns-clause-partway : goal.returns-clause-partway
returns-clause-partway c =
    let m = c.self.inside in
    let made = c.step_band in
    band_made (values_of c.args.tables.now) c.args.self.now m.image made.new.image m.first m.last
    made.new.last m.done c.self.view_is
    (a_band m.image.side m.done c.self.invariant.0 c.self.invariant.1) made.ensures.side
    made.ensures.new made.ensures.others made.ensures.saved
