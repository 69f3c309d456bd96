use Rattle.std.proofs.Common.{◌≡◌, ℕ, ◌+◌, ◌*◌, ◌<◌, length}
use Rattle.cam6_planes.specs.Row.{column_bit}
use Rattle.cam6_lines.specs.declared.parts.TheConstants.{PART}
use Rattle.cam6_lines.proofs.parts.put_row.Given as goal

abbrev pub invariant-loop-k : goal.invariant-loop-k
invariant-loop-k g l = record {
  words : length l.part ≡ PART;
  row : (x : ℕ) → x < 64 * l.k → column_bit l.part (64 * l.at + x) ≡ column_bit l.row x;
  before : (x : ℕ) → x < 64 * l.at → column_bit l.part x ≡ column_bit l.fn.part x;
}
