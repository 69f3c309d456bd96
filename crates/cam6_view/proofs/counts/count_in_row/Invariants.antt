use Rattle.std.proofs.Common.{◌≡◌, ◌≤◌, ◌*◌, ℕ}
use Rattle.cam6_view.specs.States.{is_in, count_below}
use Rattle.cam6_view.specs.Internal.{AreSpread, state_in_row}
use Rattle.cam6_view.proofs.counts.count_in_row.Given as goal

abbrev pub invariant-loop-k : goal.invariant-loop-k
invariant-loop-k l = record {
  value : (mask : ℕ) → AreSpread mask l.sets →
      l.total ≡ count_below (λ x. is_in mask (state_in_row l.rows x)) (64 * l.k);
  bound : l.total ≤ 64 * l.k;
}
