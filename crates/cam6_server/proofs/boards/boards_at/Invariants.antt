use Rattle.cam6_handoff.specs.Holding.{AreIdle}
use Rattle.cam6_server.proofs.boards.boards_at.Given as goal

-- the seats that are left hold nothing
abbrev pub invariant-loop-seat : goal.invariant-loop-seat
invariant-loop-seat l = AreIdle l.seat-iterator.rest.items
