use Rattle.std.proofs.Common.{◌+◌, ◌*◌}
use Rattle.cam6_wiring.specs.Lines.{sees_at}
use Rattle.cam6_lines.specs.Bands.{side_of}
use Rattle.cam6_lines.specs.Units.{columns}
use Rattle.cam6_lines.specs.Internal.Parts.{first_row, row_above}
use Rattle.cam6_lines.proofs.WrittenRows.{rows_more}
use Rattle.cam6_lines.proofs.parts.put_rows.Goals as goal

pub loop-j-preserved : goal.loop-j-preserved
loop-j-preserved g c = λ f of.
    let a = c.args in
    let band = a.band.now in
    let side = band.planes.now.side in
    rows_more side (λ r i. sees_at (side_of band) f a.setting.now (columns side * a.unit + i)
    (row_above band r) a.name) c.loop-j.part c.put_row.new.part c.row_seen.result
    g.row.W (first_row a.name) c.loop-j.j c.requires.words
    c.put_row.ensures.row c.put_row.ensures.before (c.row_seen.ensures f of)
    (c.loop-j.invariant f of)
