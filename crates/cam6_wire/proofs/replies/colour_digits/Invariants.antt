use Rattle.std.proofs.Common.{◌≡◌, map, take, length}
use Rattle.cam6_wire.specs.Replies.{colour_digit}
use Rattle.cam6_planes.specs.declared.row.TheConstants.{COLUMNS}
use Rattle.cam6_wire.proofs.replies.colour_digits.Given as goal

abbrev pub invariant-loop-x : goal.invariant-loop-x
invariant-loop-x l = record {
  long : length l.text ≡ COLUMNS;
  digits : take l.x l.text ≡ map colour_digit (take l.x l.colours);
}
