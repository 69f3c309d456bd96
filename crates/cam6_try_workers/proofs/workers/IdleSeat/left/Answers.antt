use Rattle.std.proofs.Common.{ap, sym, subst}
use Rattle.cam6_handoff.specs.Holding.{BoardStance, Holding}
use Rattle.cam6_handoff.specs.Seats.{Accepts}
use Rattle.cam6_try_workers.proofs.workers.IdleSeat.left.Goals as goal

pub put_back-requires : goal.put_back-requires
put_back-requires c =
    let (v, holds, lease) = c.in_ok-lease.ensures in
    subst (λ (h : Holding). Accepts h c.preempt.result)
    (sym (ap (λ (b : BoardStance). b.holds) holds))
    (λ m by st. c.preempt.ensures.stands m by c.in_ok-lease.job (lease.stands m by st)
    (sym c.into_image.ensures))
