use Rattle.std.proofs.Common.{◌≤◌, sym, subst}
use Rattle.std.specs.List.{AllByRecursion}
use Rattle.cam6_planes.specs.Cells.{cells}
use Rattle.cam6_commands.specs.Limits.{max_colour}
use Rattle.cam6_machine.proofs.ColoursOfRows.{row_colours-small}
use Rattle.cam6_machine.proofs.rows.row_colours.Goals as goal

pub new-requires-clause-colours : goal.new-requires-clause-colours
new-requires-clause-colours c =
    let row = c.colour_row-count in
    subst (AllByRecursion (λ colour. colour ≤ max_colour)) (sym row.ensures.value)
    (row_colours-small row.result max_colour c.args.map.now (cells c.args.rest.now.planes)
    c.args.y c.requires.colours)
