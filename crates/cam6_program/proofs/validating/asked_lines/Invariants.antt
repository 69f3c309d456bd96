use Rattle.std.proofs.Common.{◌≡◌, ℕ, ◌<◌, ◌^◌, ◌&&◌, [], get_or, length}
use Rattle.cam6_planes.specs.Row.{column_bit}
use Rattle.cam6_wiring.specs.Seen.{shown}
use Rattle.cam6_wiring.specs.declared.wirings.TheConstants.{LINES}
use Rattle.cam6_program.proofs.validating.asked_lines.Given as goal

abbrev pub invariant-loop-line : goal.invariant-loop-line
invariant-loop-line l = record {
  twelve : length l.lines ≡ LINES;
  shown : (k address : ℕ) → k < l.line → address < 2 ^ LINES →
      column_bit (get_or l.lines k []) address ≡ (shown l.asked k && shown address k);
}
