use Rattle.std.proofs.Common.{◌≡◌, take, drop, length}
use Rattle.cam6_planes.specs.Cells.{cells}
use Rattle.cam6_view.specs.States.{row_colours}
use Rattle.cam6_view.specs.declared.colours.TheConstants.{COLOURS}
use Rattle.cam6_view.proofs.colours.colour_row.Given as goal

abbrev pub invariant-loop-x : goal.invariant-loop-x
invariant-loop-x l = record {
  room : length l.colours ≡ COLOURS;
  value : take l.x l.colours ≡ row_colours l.x l.map (cells l.rest.planes) l.y;
  past : drop l.x l.colours ≡ drop l.x l.initial.colours;
}
