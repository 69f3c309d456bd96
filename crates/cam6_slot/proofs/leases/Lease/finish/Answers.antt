use Rattle.std.proofs.Common.{◌≡◌, sym, subst}
use Rattle.cam6_slot.specs.Leases.{StoredLease}
use Rattle.cam6_slot.specs.Lefts.{lease_left}
use Rattle.cam6_slot.specs.Stands.{StandsOut}
use Rattle.cam6_slot.specs.Finished.{StoredFinished, IsDone}
use Rattle.cam6_slot.proofs.Ending.{finishes}
use Rattle.cam6_slot.proofs.leases.Lease.finish.Goals as goal

-- src/leases.rt:146:5
pub returns : goal.returns
returns c m by job stands image =
    let same = sym c.self.view_is in
    subst (λ (f : StoredFinished). IsDone f m by) (sym c.finish.ensures)
    (finishes (record {
      work = c.self.inside.work;
      rows = c.self.inside.rows;
      board = c.self.inside.board;
    }) c.args.image m by job c.self.invariant
    (subst (λ (l : StoredLease). lease_left l ≡ 0) same c.requires.left)
    (subst (λ (l : StoredLease). StandsOut l job m by) same stands) image)
