use Rattle.cam6_handoff.specs.Holding.{AreIdle}
use Rattle.cam6_try_workers.proofs.hosts.workers_at.Given as goal

-- the seats that are left
abbrev pub invariant-loop-seat : goal.invariant-loop-seat
invariant-loop-seat l = AreIdle l.seat-iterator.rest.items
