use Rattle.std.proofs.Common.{◌≡◌, ◌+◌, length}
use Rattle.cam6_patterns.specs.Body.{line_read}
use Rattle.cam6_patterns.proofs.bodies.Cells.read_line.Given as goal

abbrev pub invariant-loop-byte : goal.invariant-loop-byte
invariant-loop-byte l = record {
  columns : l.column + length l.rest ≡ length l.bytes + 1;
  same : line_read l.bounds l.line l.rest l.column l.self
      ≡ line_read l.bounds l.line l.bytes 1 l.fn.self;
}

abbrev pub decreases-loop-byte : goal.decreases-loop-byte
decreases-loop-byte l = length l.rest
