use Rattle.std.proofs.Common.{◌≡◌}
use Rattle.cam6_handoff.proofs.desks.Desk.wait.Given as goal

abbrev pub invariant-loop : goal.invariant-loop
invariant-loop g l = l.self ≡ l.initial.self
