use Rattle.std.proofs.Common.{◌≡◌, ◌≤◌, ◌-◌}
use Rattle.cam6_pool.proofs.workers.take_next.Given as goal

-- so many users were passed over, and nobody's command was taken yet
abbrev pub invariant-loop-round : goal.invariant-loop-round
invariant-loop-round l = record {
  others : l.round ≡ record l.initial.round { passed = l.round.passed };
  most : l.round.passed ≤ l.round.seat.users;
}

abbrev pub decreases-loop-round : goal.decreases-loop-round
decreases-loop-round l = l.round.seat.users - l.round.passed
