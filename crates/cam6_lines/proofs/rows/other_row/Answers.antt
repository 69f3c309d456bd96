use Rattle.std.proofs.Common.{◌+◌, ◌∙◌, sym, if◌then◌else◌, ap}
use Rattle.cam6_planes.specs.Row.{west_of, east_of}
use Rattle.cam6_lines.proofs.RowsOfUnits.{north_of, south_of}
use Rattle.cam6_lines.proofs.rows.other_row.Goals as goal

pub returns-then-lower-clause-row : goal.returns-then-lower-clause-row
returns-then-lower-clause-row c = λ s first within.
    let y = west_of s (first + c.args.j) in
    sym (north_of s first c.args.j c.requires.first within c.requires.last) ∙
    ap (λ b. if b then west_of s y else east_of s y) (sym c.if-lower.true)

pub returns-else-lower-clause-row : goal.returns-else-lower-clause-row
returns-else-lower-clause-row c = λ s first within.
    let y = west_of s (first + c.args.j) in
    sym (south_of s first c.args.j c.requires.first within c.requires.last) ∙
    ap (λ b. if b then west_of s y else east_of s y) (sym c.if-lower.false)
