use Rattle.cam6_planes.specs.Cells.{Cells}
use Rattle.cam6_lines.specs.Bands.{IsBandOf}
use Rattle.cam6_lines.specs.Internal.Parts.{ShowsRowsBeside}
use Rattle.cam6_lines.proofs.parts.put_beside.Given as goal

abbrev pub invariant-loop-j : goal.invariant-loop-j
invariant-loop-j g l =
    (f : Cells) → IsBandOf f l.band → ShowsRowsBeside f l.compass l.p l.band l.unit l.j l.part
