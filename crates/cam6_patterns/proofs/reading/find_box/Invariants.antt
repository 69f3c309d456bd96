use Rattle.std.proofs.Common.{◌≡◌, ◌+◌, ◌≤◌, ℕ, length, None}
use Rattle.cam6_planes.specs.Side.{side_number}
use Rattle.cam6_show_frames.specs.Lines.{lines}
use Rattle.cam6_patterns.specs.Reading.{lines_read, before}
use Rattle.cam6_patterns.proofs.reading.find_box.Given as goal

abbrev pub invariant-loop-line : goal.invariant-loop-line
invariant-loop-line l = record {
  counted : l.count + length l.rest ≤ length l.text;
  same : (states : ℕ) →
      lines_read (side_number l.side) states (lines l.rest) l.count (before l.corner)
      ≡ lines_read (side_number l.side) states (lines l.text) 0 (before None);
}

abbrev pub decreases-loop-line : goal.decreases-loop-line
decreases-loop-line l = length l.rest
