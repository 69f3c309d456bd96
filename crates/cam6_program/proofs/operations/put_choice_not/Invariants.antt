use Rattle.std.proofs.Common.{◌≡◌, ℕ, ◌<◌, ◌*◌, length, not, if◌then◌else◌}
use Rattle.cam6_planes.specs.Row.{column_bit}
use Rattle.cam6_lines.specs.declared.units.TheConstants.{UNIT}
use Rattle.cam6_program.proofs.operations.put_choice_not.Given as goal

abbrev pub invariant-loop-k : goal.invariant-loop-k
invariant-loop-k l = (length l.out ≡ UNIT) ×
    ((c : ℕ) → c < 64 * l.k → column_bit l.out c
    ≡ (if column_bit l.by c then not (column_bit l.high c) else column_bit l.low c))
