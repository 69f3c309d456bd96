use Rattle.std.proofs.Common.{◌∙◌, sym, ap, subst}
use Rattle.cam6_planes.specs.Stored.{Stored}
use Rattle.cam6_slot.specs.Parking.{StoredQueued, LeavesAs}
use Rattle.cam6_slot.specs.Leases.{StoredLease, JobFits}
use Rattle.cam6_slot.specs.Stands.{Stands, StandsOut}
use Rattle.cam6_slot.proofs.GoingOut.{job_fits, goes_out}
use Rattle.cam6_slot.proofs.queued.Queued.lease.Goals as goal

pub returns-clause-stands : goal.returns-clause-stands
returns-clause-stands c m by stands =
    let w = c.self.inside.work in
    let parked = c.self.inside.parked in
    let out = c.into_image-image.result in
    let same = sym c.self.view_is in
    let leaves : LeavesAs w.home parked out =
    subst (λ (p : Stored). LeavesAs p parked out) c.home-2.ensures.planes
    c.into_image-image.ensures in
    let is = c.new.ensures ∙
    ap (λ r. record { work = w; rows = r; board = c.args.board }) c.rows_done-rows.ensures.rows in
    subst (λ (l : StoredLease). StandsOut l c.job-job.result m by) (sym is)
    (goes_out w c.self.invariant.work parked out c.self.invariant.parked leaves c.args.board
    c.job-job.result c.job-job.ensures.image c.job-job.ensures.cycle c.job-job.ensures.direction
    c.job-job.ensures.position c.job-job.ensures.steps m by
    (subst (λ (q : StoredQueued). Stands q m by) same stands))

pub returns-clause-fits : goal.returns-clause-fits
returns-clause-fits c =
    let w = c.self.inside.work in
    let parked = c.self.inside.parked in
    let out = c.into_image-image.result in
    let leaves : LeavesAs w.home parked out =
    subst (λ (p : Stored). LeavesAs p parked out) c.home-2.ensures.planes
    c.into_image-image.ensures in
    let is = c.new.ensures ∙
    ap (λ r. record { work = w; rows = r; board = c.args.board }) c.rows_done-rows.ensures.rows in
    subst (λ (l : StoredLease). JobFits l c.job-job.result) (sym is)
    (job_fits w c.self.invariant.work parked out c.self.invariant.parked leaves c.args.board
    c.job-job.result c.job-job.ensures.image c.job-job.ensures.cycle c.job-job.ensures.direction
    c.job-job.ensures.position c.job-job.ensures.steps)
