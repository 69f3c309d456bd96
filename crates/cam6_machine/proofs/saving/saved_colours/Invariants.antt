use Rattle.std.proofs.Common.{◌≡◌, ◌<◌, ℕ, get_or, length}
use Rattle.cam6_machine.proofs.saving.saved_colours.Given as goal

abbrev pub invariant-loop-state : goal.invariant-loop-state
invariant-loop-state l = record {
  long : length l.saved ≡ 16;
  same : (i : ℕ) → i < l.state → get_or l.saved i 0 ≡ get_or l.colours i 0;
}
