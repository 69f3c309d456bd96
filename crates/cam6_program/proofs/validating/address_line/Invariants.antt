use Rattle.std.proofs.Common.{◌≡◌, ℕ, ◌<◌, ◌*◌, length}
use Rattle.cam6_planes.specs.Row.{column_bit}
use Rattle.cam6_wiring.specs.Seen.{shown}
use Rattle.cam6_lines.specs.declared.units.TheConstants.{UNIT}
use Rattle.cam6_program.proofs.validating.address_line.Given as goal

abbrev pub invariant-loop-k : goal.invariant-loop-k
invariant-loop-k l = (length l.unit ≡ UNIT) ×
    ((address : ℕ) → address < 64 * l.k → column_bit l.unit address ≡ shown address l.line)
