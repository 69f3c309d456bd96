use Rattle.std.proofs.Common.{◌≡◌, ◌<◌, ◌*◌, ℕ, length, get_or}
use Rattle.cam6_planes.specs.Side.{side_number}
use Rattle.cam6_planes.specs.declared.row.TheConstants.{BYTES}
use Rattle.cam6_planes.specs.Digits.{eight_columns}
use Rattle.cam6_patterns.specs.Placing.{bit_placed}
use Rattle.cam6_patterns.proofs.placing.Placement.bytes.Given as goal

abbrev pub invariant-loop-i : goal.invariant-loop-i
invariant-loop-i l = record {
  long : length l.bytes ≡ BYTES;
  filled : (j : ℕ) → j < l.i → get_or l.bytes j 0 ≡ eight_columns
      (bit_placed (side_number l.self.side) l.self.first l.self.pattern.now l.k l.y) (8 * j);
}
