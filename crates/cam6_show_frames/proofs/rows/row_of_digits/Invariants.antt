use Rattle.std.proofs.Common.{◌≡◌, length}
use Rattle.cam6_show_frames.specs.Replies.{digit_column}
use Rattle.cam6_planes.specs.Limits.{max_columns}
use Rattle.cam6_show_frames.proofs.Filled.{FilledTo}
use Rattle.cam6_show_frames.proofs.rows.row_of_digits.Given as goal

abbrev pub invariant-loop-x : goal.invariant-loop-x
invariant-loop-x l = record {
  long : length l.colours ≡ max_columns;
  filled : FilledTo (digit_column l.bytes) l.colours l.x;
}
