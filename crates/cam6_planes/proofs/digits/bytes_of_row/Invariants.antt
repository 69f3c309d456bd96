use Rattle.std.proofs.Common.{◌≡◌, ℕ, ◌<◌, ◌*◌, length}
use Rattle.cam6_planes.specs.Row.{column_bit, byte_column}
use Rattle.cam6_planes.specs.declared.row.TheConstants.{BYTES}
use Rattle.cam6_planes.proofs.digits.bytes_of_row.Given as goal

abbrev pub invariant-loop-i : goal.invariant-loop-i
invariant-loop-i l = (length l.bytes ≡ BYTES) ×
    ((x : ℕ) → x < 8 * l.i → byte_column l.bytes x ≡ column_bit l.row x)
