use Rattle.std.proofs.Common.{◌≡◌, ◌-◌, ◌∙◌, ap, sym, subst, arith, if◌then◌else◌}
use Rattle.cam6_slot.specs.Leases.{StoredLease, ImageFits, IsAtRow}
use Rattle.cam6_slot.specs.Lefts.{queued_home, home_after, bands_of_lease, lease_left, lease_home}
use Rattle.cam6_slot.proofs.Ending.{part_left}
use Rattle.cam6_slot.proofs.leases.Lease.preempt.Goals as goal

pub returns-in-Err-clause-home : goal.returns-in-Err-clause-home
returns-in-Err-clause-home c =
    let w = c.self.inside.work in
    let rows = c.self.inside.rows in
    let own : StoredLease = record { work = w; rows = rows; board = c.self.inside.board } in
    let fits : ImageFits w rows c.args.image =
    subst (λ (l : StoredLease). ImageFits l.work l.rows c.args.image) (sym c.self.view_is)
    c.requires.image in
    let begun = (subst (IsAtRow rows) c.in-Err.ensures.step fits.row).1 in
    subst (λ (l : StoredLease). queued_home c.new-in-Err.result
    ≡ home_after (bands_of_lease l) (lease_left l) (lease_home l)) c.self.view_is
    (ap queued_home c.new-in-Err.ensures ∙
    sym (ap (λ b. if b then lease_left own else lease_home own)
    (part_left w.home.side (w.total - w.reached.steps) rows
    (omega (arith, c.self.invariant.step begun)) begun c.self.invariant.rows
    c.self.invariant.bands)))
