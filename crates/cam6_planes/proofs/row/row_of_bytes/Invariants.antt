use Rattle.std.proofs.Common.{◌≡◌, ℕ, ◌<◌, ◌*◌, length}
use Rattle.cam6_planes.specs.Row.{column_bit, byte_column}
use Rattle.cam6_planes.specs.declared.row.TheConstants.{WORDS}
use Rattle.cam6_planes.proofs.row.row_of_bytes.Given as goal

abbrev pub invariant-loop-i : goal.invariant-loop-i
invariant-loop-i l = (length l.row ≡ WORDS) ×
    ((x : ℕ) → x < 64 * l.i → column_bit l.row x ≡ byte_column l.bytes x)
