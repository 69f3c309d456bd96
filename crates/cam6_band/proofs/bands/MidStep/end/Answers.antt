use Rattle.std.proofs.Common.{◌≡◌, ◌∙◌, ap, arith}
use Rattle.cam6_planes.specs.Side.{side_number}
use Rattle.cam6_planes.specs.Stored.{width}
use Rattle.cam6_planes.proofs.SideNumbers.{side_least}
use Rattle.cam6_band.specs.ByTables.{values_of}
use Rattle.cam6_band.specs.Partway.{Mid}
use Rattle.cam6_band.proofs.Further.{a_band, band_made}
use Rattle.cam6_band.proofs.HalfPlanes.{all_stepped}
use Rattle.cam6_band.proofs.bands.MidStep.end.Goals as goal

pub returns-clause-planes : goal.returns-clause-planes
returns-clause-planes c = λ o start.
    let m = c.self.inside in
    let s = width c.args.self.planes in
    let tables = values_of c.args.tables.now in
    let made = c.step_band in
    let part = band_made tables c.args.self m.image made.new.image m.first m.last made.new.last
    m.done c.self.view_is (a_band m.image.side m.done c.self.invariant.0 c.self.invariant.1)
    made.ensures.side made.ensures.new made.ensures.others made.ensures.saved o start in
    let shown : width m.image ≡ s = ap (λ (mid : Mid). width mid.planes) c.self.view_is in
    let done : m.done ≡ c.args.self.done = ap (λ (mid : Mid). mid.done) c.self.view_is in
    let side : width made.new.image ≡ s = ap side_number made.ensures.side ∙ shown in
    all_stepped s tables o made.new.image (omega (arith, side_least c.args.self.planes.side)) side
    (λ p x y h k l. part.new p x y h (omega (arith, k, side)) (omega (arith, l, done, c.requires)))
