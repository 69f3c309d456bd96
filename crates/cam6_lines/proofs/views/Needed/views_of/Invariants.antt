use Rattle.std.proofs.Common.{◌≡◌, ℕ, ◌<◌, ◌≤◌, ◌==◌, length, get_or, None}
use Rattle.std.specs.Int.{bit_at}
use Rattle.cam6_wiring.specs.declared.wirings.TheConstants.{LINES}
use Rattle.cam6_lines.specs.Internal.Views.{IsSeen}
use Rattle.cam6_lines.proofs.views.Needed.views_of.Given as goal

abbrev pub invariant-loop-k : goal.invariant-loop-k
invariant-loop-k l = record {
  long : length l.views ≡ LINES;
  few : l.self.count ≤ l.k;
  seen : (j : ℕ) → j < l.k → IsSeen l.self (bit_at l.asked j == 1) (get_or l.names j None)
      (get_or l.views j None);
}
