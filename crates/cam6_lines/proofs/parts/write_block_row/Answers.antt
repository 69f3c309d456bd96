use Rattle.std.proofs.Common.{◌+◌, ◌*◌}
use Rattle.cam6_planes.specs.Cells.{torus}
use Rattle.cam6_wiring.specs.Seen.{seen_in_block}
use Rattle.cam6_lines.specs.Bands.{side_of}
use Rattle.cam6_lines.specs.Units.{columns}
use Rattle.cam6_lines.specs.Internal.Parts.{row_above}
use Rattle.cam6_lines.proofs.WrittenRows.{rows_more}
use Rattle.cam6_lines.proofs.parts.write_block_row.Goals as goal

pub returns : goal.returns
returns g c = λ f of done.
    let a = c.args in
    let band = a.band.now in
    let s = side_of band in
    let side = band.planes.now.side in
    rows_more side (λ r i. seen_in_block s (torus s f) a.grid a.rotation a.p
    (columns side * a.unit + i) (row_above band r)) a.part.now c.put_row.new.part
    c.seen_in_block.result g.row.W 1 a.j c.requires.words
    c.put_row.ensures.row c.put_row.ensures.before (c.seen_in_block.ensures f of) done
