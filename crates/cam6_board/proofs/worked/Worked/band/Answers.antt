use Rattle.std.proofs.Common.{◌≡◌, ◌∙◌, refl, ap, sym, subst}
use Rattle.cam6_planes.specs.Cells.{Cells}
use Rattle.cam6_planes.specs.Stored.{width}
use Rattle.cam6_band.specs.ByTables.{step_by, values_of}
use Rattle.cam6_board.specs.Images.{planes_in, IsOnTheWay, IsAfterBand}
use Rattle.cam6_board.specs.Internal.Worked.{image_of}
use Rattle.cam6_board.specs.declared.images.Image.{Image}
use Rattle.cam6_board.proofs.worked.Worked.band.Goals as goal

pub returns-then-go_on-clause-planes : goal.returns-then-go_on-clause-planes
returns-then-go_on-clause-planes c =
    let by = values_of c.args.tables.now in
    let same : c.in-Some.image ≡ c.args.self.now =
    ap image_of (sym c.in-Some.is) ∙ c.self.view_is in
    subst (λ (i : Image). (o : Cells) → IsOnTheWay o (step_by (width (planes_in i)) by o) i →
    IsAfterBand o (step_by (width (planes_in i)) by o) c.go_on.new.self) same
    (c.if-go_on.ensures.planes refl)

pub returns-clause-planes : goal.returns-clause-planes
returns-clause-planes c =
    let by = values_of c.args.tables.now in
    let same : c.in-Some-take.image ≡ c.args.self.now =
    ap image_of (sym c.in-Some-take.is ∙ c.take.ensures.value) ∙ c.if-go_on.ensures.stays refl ∙
    ap image_of (sym c.in-Some.is) ∙ c.self.view_is in
    subst (λ (i : Image). (o : Cells) → IsOnTheWay o (step_by (width (planes_in i)) by o) i →
    IsAfterBand o (step_by (width (planes_in i)) by o) c.band.result) same c.band.ensures.planes
