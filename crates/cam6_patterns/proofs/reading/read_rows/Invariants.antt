use Rattle.std.proofs.Common.{◌≡◌, ◌+◌, ◌≤◌, ℕ, length}
use Rattle.cam6_show_frames.specs.Lines.{lines}
use Rattle.cam6_patterns.specs.Body.{nothing_read}
use Rattle.cam6_patterns.specs.Reading.{lines_read, within}
use Rattle.cam6_patterns.specs.Outcome.{boxed, bounds_of}
use Rattle.cam6_patterns.proofs.reading.read_rows.Given as goal

abbrev pub invariant-loop-line : goal.invariant-loop-line
invariant-loop-line l = record {
  counted : l.count + length l.rest ≤ l.before + length l.text;
  same : (side : ℕ) →
      lines_read side l.states (lines l.rest) l.count
      (within (boxed l.fn.extent) (bounds_of l.fn.extent l.states) l.cells)
      ≡ lines_read side l.states (lines l.text) l.before
      (within (boxed l.fn.extent) (bounds_of l.fn.extent l.states) nothing_read);
}

abbrev pub decreases-loop-line : goal.decreases-loop-line
decreases-loop-line l = length l.rest
