use Rattle.std.proofs.Common.{subst}
use Rattle.cam6_slot.specs.Leases.{StoredLease}
use Rattle.cam6_slot.specs.Needs.{IsNeed}
use Rattle.cam6_slot.proofs.leases.Lease.need.Goals as goal

pub returns-clause-need : goal.returns-clause-need
returns-clause-need c =
    subst (λ (l : StoredLease). IsNeed l.work c.args.index c.need_at.result) c.self.view_is
    c.need_at.ensures.need
