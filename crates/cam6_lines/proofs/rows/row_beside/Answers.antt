use Rattle.std.proofs.Common.{◌+◌, ◌∙◌, arith}
use Rattle.cam6_planes.specs.Row.{west_of}
use Rattle.cam6_lines.proofs.Looking.{north_row, south_row, first_north, first_south}
use Rattle.cam6_lines.proofs.RowsOfUnits.{north_of, south_of}
use Rattle.cam6_lines.proofs.rows.row_beside.Goals as goal

pub returns-in-North-clause-row : goal.returns-in-North-clause-row
returns-in-North-clause-row c = λ s first within.
    let a = c.args in
    let one = first_north a.compass c.in-North.is in
    north_row s a.compass (west_of s (first + a.j)) c.in-North.is ∙
    north_of s first a.j (omega (arith, c.requires.first, one)) within
    (omega (arith, c.requires.last, one))

pub returns-in-South-clause-row : goal.returns-in-South-clause-row
returns-in-South-clause-row c = λ s first within.
    let a = c.args in
    let one = first_south a.compass c.in-South.is in
    south_row s a.compass (west_of s (first + a.j)) c.in-South.is ∙
    south_of s first a.j (omega (arith, c.requires.first, one)) within
    (omega (arith, c.requires.last, one))
