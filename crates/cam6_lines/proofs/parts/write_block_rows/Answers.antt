use Rattle.std.proofs.Common.{Bool, ℕ, ◌+◌, ◌*◌, arith}
use Rattle.cam6_planes.specs.Cells.{torus}
use Rattle.cam6_wiring.specs.Seen.{seen_in_block}
use Rattle.cam6_lines.specs.Bands.{side_of}
use Rattle.cam6_lines.specs.Units.{columns}
use Rattle.cam6_lines.specs.Internal.Parts.{row_above}
use Rattle.cam6_lines.proofs.WrittenRows.{rows_more}
use Rattle.cam6_lines.proofs.parts.write_block_rows.Goals as goal

pub returns : goal.returns
returns g c = λ f of done r i from h l.
    let a = c.args in
    let band = a.band.now in
    let s = side_of band in
    let side = band.planes.now.side in
    let sees : ℕ → ℕ → Bool = λ r i. seen_in_block s (torus s f) a.grid a.rotation a.p
    (columns side * a.unit + i) (row_above band r) in
    rows_more side sees c.put_row.new.part c.put_row-2.new.part c.seen_in_block-lower.result
    g.row.W 1 (a.j + 1) c.requires.words c.put_row-2.ensures.row c.put_row-2.ensures.before
    (c.seen_in_block-lower.ensures f of)
    (rows_more side sees a.part.now c.put_row.new.part c.seen_in_block-upper.result g.row.W 1 a.j
    c.requires.words c.put_row.ensures.row c.put_row.ensures.before (c.seen_in_block-upper.ensures f of) done)
    r i from (omega (arith, h)) l
