use Rattle.std.proofs.Common.{◌≡◌, ℕ, ◌+◌, ◌*◌, ◌<◌, ◌≤◌}
use Rattle.cam6_planes.specs.Cells.{Cells}
use Rattle.cam6_planes.specs.Row.{column_bit}
use Rattle.cam6_wiring.specs.Lines.{sees_at}
use Rattle.cam6_lines.specs.Bands.{IsBandOf, side_of}
use Rattle.cam6_lines.specs.Units.{columns, place}
use Rattle.cam6_lines.specs.Internal.Parts.{first_row, row_above}
use Rattle.cam6_lines.proofs.parts.put_rows.Given as goal

abbrev pub invariant-loop-j : goal.invariant-loop-j
invariant-loop-j g l =
    let side = l.band.planes.now.side in
    (f : Cells) → IsBandOf f l.band → (r i : ℕ) → first_row l.name ≤ r → r < l.j →
    i < columns side → column_bit l.part (place side r i) ≡ sees_at (side_of l.band) f l.setting
    (columns side * l.unit + i) (row_above l.band r) l.name
