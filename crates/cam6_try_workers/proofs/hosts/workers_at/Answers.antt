use Rattle.std.proofs.Common.{sym, subst}
use Rattle.cam6_handoff.specs.Holding.{AreIdle}
use Rattle.cam6_handoff.proofs.Idle.{first_idle, rest_idle}
use Rattle.cam6_try_workers.proofs.hosts.workers_at.Goals as goal

pub loop-seat-init : goal.loop-seat-init
loop-seat-init c =
    subst AreIdle (sym c.into_iter-seat-iterator.ensures.into_iter_gives.0) c.requires

pub new-requires : goal.new-requires
new-requires c =
    first_idle c.loop-seat.seat-iterator.rest.items c.in-Some.seat c.next.new.self.rest.items
    c.in-Some.ensures.steps.0 c.loop-seat.invariant

pub loop-seat-preserved : goal.loop-seat-preserved
loop-seat-preserved c =
    rest_idle c.loop-seat.seat-iterator.rest.items c.in-Some.seat c.next.new.self.rest.items
    c.in-Some.ensures.steps.0 c.loop-seat.invariant
