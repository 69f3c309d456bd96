use Rattle.std.proofs.Common.{◌+◌, ◌*◌}
use Rattle.cam6_planes.specs.Cells.{Cells}
use Rattle.cam6_lines.specs.Bands.{IsBandOf}
use Rattle.cam6_lines.specs.Internal.Parts.{ShowsRowsInBlock}
use Rattle.cam6_lines.proofs.parts.put_from_lower.Given as goal

abbrev pub invariant-loop-k : goal.invariant-loop-k
invariant-loop-k g l =
    (f : Cells) → IsBandOf f l.band →
    ShowsRowsInBlock f l.grid l.rotation l.p l.band l.unit (2 * l.k + 1) l.part
