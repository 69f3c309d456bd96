use Rattle.std.proofs.Common.{◌≡◌, ◌<◌, ℕ, get_or, length, nat_le, true}
use Rattle.cam6_commands.specs.Limits.{max_colour}
use Rattle.cam6_machine.proofs.refusals.accept_colours.Given as goal

abbrev pub invariant-loop-state : goal.invariant-loop-state
invariant-loop-state l = record {
  long : length l.kept ≡ 16;
  same : (i : ℕ) → i < l.state → get_or l.kept i 0 ≡ get_or l.colours i 0;
  small : (i : ℕ) → i < l.state → nat_le (get_or l.colours i 0) max_colour ≡ true;
}
