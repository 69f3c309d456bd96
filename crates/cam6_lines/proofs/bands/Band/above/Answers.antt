use Rattle.std.proofs.Common.{◌≡◌, ◌+◌, ◌-◌, ◌<◌, ◌∙◌, ap, sym, subst, arith}
use Rattle.cam6_planes.specs.Cells.{IsRow, cells}
use Rattle.cam6_planes.specs.Row.{west_of}
use Rattle.cam6_lines.specs.Bands.{side_of}
use Rattle.cam6_lines.proofs.RowsAbove.{above_below, above_two}
use Rattle.cam6_lines.proofs.bands.Band.above.Goals as goal

pub returns-else-r : goal.returns-else-r
returns-else-r c =
    λ f of p x plane within.
    let band = c.args.self.now in
    let some : 0 < c.args.r = omega (arith, c.if-r-eq0.false) in
    let inside : c.args.r - 1 < 16 = omega (arith, c.if-r.false, c.requires.row) in
    let place : band.first + c.args.r - 1 ≡ band.first + (c.args.r - 1) = omega (arith, some) in
    c.row.ensures p x plane within ∙ ap (cells band.planes.now p x) place ∙
    of.rows p x (c.args.r - 1) plane within inside ∙ ap (f p x) (sym place ∙
    sym (above_below (side_of band) band.first c.args.r some
    (omega (arith, c.requires.within, inside))))

pub returns-then-r : goal.returns-then-r
returns-then-r c =
    λ f of. let band = c.args.self.now in
    let place : band.first + c.args.r ≡ band.first + 15 + 2 = omega (arith, c.if-r.true) in
    subst (λ n. IsRow (side_of band) f n band.south.now)
    (sym (ap (west_of (side_of band)) place ∙
    above_two (side_of band) (band.first + 15) (omega (arith, c.requires.within)))) of.south
