use Rattle.std.proofs.Common.{◌≡◌, ℕ, ◌<◌, length, get_or, Some, None, []}
use Rattle.cam6_planes.specs.Cells.{Cells}
use Rattle.cam6_wiring.specs.declared.names.Name.{Name}
use Rattle.cam6_lines.specs.Bands.{IsBandOf}
use Rattle.cam6_lines.specs.Internal.Parts.{ShowsPart}
use Rattle.cam6_lines.proofs.unit_lines.put_parts_at.Given as goal

abbrev pub invariant-loop-k : goal.invariant-loop-k
invariant-loop-k g l = record {
  long : length l.parts ≡ length l.fn.parts;
  made : (f : Cells) → IsBandOf f l.band → (place : ℕ) → place < l.k → (name : Name) →
      get_or l.needed.names place None ≡ Some name →
      ShowsPart f l.setting name l.band l.unit (get_or l.parts place []);
}
