use Rattle.std.proofs.Common.{◌≡◌, length}
use Rattle.cam6_planes.specs.Row.{bit_number, byte_column}
use Rattle.cam6_planes.specs.Limits.{max_columns}
use Rattle.cam6_show_frames.proofs.Filled.{FilledTo}
use Rattle.cam6_show_frames.proofs.rows.row_of_bits.Given as goal

abbrev pub invariant-loop-x : goal.invariant-loop-x
invariant-loop-x l = record {
  long : length l.colours ≡ max_columns;
  filled : FilledTo (λ x. bit_number (byte_column l.bytes x)) l.colours l.x;
}
