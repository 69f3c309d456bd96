use Rattle.std.proofs.Common.{◌≡◌, ◌+◌, ◌∙◌, ap, sym, subst, arith}
use Rattle.cam6_planes.specs.Cells.{IsRow}
use Rattle.cam6_planes.specs.Row.{west_of}
use Rattle.cam6_wiring.specs.Lines.{AreRowsAround}
use Rattle.cam6_lines.specs.Bands.{side_of}
use Rattle.cam6_lines.proofs.RowsAbove.{above_two}
use Rattle.cam6_lines.proofs.bands.Band.around.Goals as goal

pub returns-clause-rows : goal.returns-clause-rows
returns-clause-rows c =
    λ f of. let band = c.args.self.now in
    let y = band.first + c.args.r in
    let place : band.first + (c.args.r + 2) ≡ y + 2 = omega arith in
    subst (λ side. AreRowsAround f y (record {
      side = side;
      north = c.above.result;
      here = c.row.result;
      south = c.above-2.result;
    })) (sym c.side.ensures.side) (record {
      north = c.above.ensures f of;
      here = λ p x plane within. c.row.ensures p x plane within ∙
          of.rows p x c.args.r plane within c.requires.row;
      south = subst (λ n. IsRow (side_of band) f n c.above-2.result.now)
          (ap (west_of (side_of band)) place ∙
          above_two (side_of band) y (omega (arith, c.requires.within))) (c.above-2.ensures f of);
    })
