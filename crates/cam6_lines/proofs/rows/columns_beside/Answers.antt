use Rattle.std.proofs.Common.{◌+◌, ◌*◌, sym, ◌∙◌, ap}
use Rattle.cam6_planes.specs.Row.{column_bit}
use Rattle.cam6_planes.specs.Side.{side_number}
use Rattle.cam6_lines.specs.Units.{columns}
use Rattle.cam6_lines.proofs.Looking.{same_column, west_column, east_column}
use Rattle.cam6_lines.proofs.rows.columns_beside.Goals as goal

pub returns-in-Center : goal.returns-in-Center
returns-in-Center c = λ i h.
    let a = c.args in
    c.columns_here.ensures i h ∙ ap (column_bit a.row.now)
    (sym (same_column (side_number a.side) a.compass (columns a.side * a.unit + i) c.in-Center.is))

pub returns-in-West : goal.returns-in-West
returns-in-West c = λ i h.
    let a = c.args in
    c.columns_west.ensures i h ∙ ap (column_bit a.row.now)
    (sym (west_column (side_number a.side) a.compass (columns a.side * a.unit + i) c.in-West.is))

pub returns-in-East : goal.returns-in-East
returns-in-East c = λ i h.
    let a = c.args in
    c.columns_east.ensures i h ∙ ap (column_bit a.row.now)
    (sym (east_column (side_number a.side) a.compass (columns a.side * a.unit + i) c.in-East.is))
