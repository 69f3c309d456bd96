use Rattle.std.proofs.Common.{◌∙◌, sym, ap, subst, arith}
use Rattle.cam6_planes.specs.Side.{side_number}
use Rattle.cam6_planes.specs.Stored.{Stored}
use Rattle.cam6_slot.specs.Works.{StoredWork}
use Rattle.cam6_slot.specs.Leases.{StoredLease, JobFits, TablesFit}
use Rattle.cam6_slot.specs.Stands.{StandsOut}
use Rattle.cam6_slot.proofs.Banding.{fits_inside, fits_after, stands_inside, stands_after}
use Rattle.cam6_slot.proofs.leases.Lease.advance.Goals as goal

pub returns-then-from-side-clause-stands : goal.returns-then-from-side-clause-stands
returns-then-from-side-clause-stands c m by before after end tables true_tables stands moves =
    let same = sym c.self.view_is in
    let l : StoredLease = record {
      work = c.self.inside.work;
      rows = c.self.inside.rows;
      board = c.self.inside.board;
    } in
    let there = subst (λ (x : StoredLease). StandsOut x before m by) same stands in
    stands_inside l before after end tables there.fits moves m by c.self.invariant.work
    (subst (λ (x : StoredLease). TablesFit x.work tables) same true_tables) there
    (omega (
      arith,
      c.if-from-side.true,
      c.from.ensures,
      c.number-side.ensures.value,
      ap side_number (c.side.ensures.side ∙ ap (λ (p : Stored). p.side) (c.planes.ensures ∙ c.home.ensures.planes)),
    ))

pub returns-then-from-side-clause-fits : goal.returns-then-from-side-clause-fits
returns-then-from-side-clause-fits c before after end tables fits moves =
    let same = sym c.self.view_is in
    let l : StoredLease = record {
      work = c.self.inside.work;
      rows = c.self.inside.rows;
      board = c.self.inside.board;
    } in
    fits_inside l before after end tables
    (subst (λ (x : StoredLease). JobFits x before) same fits) moves
    (omega (
      arith,
      c.if-from-side.true,
      c.from.ensures,
      c.number-side.ensures.value,
      ap side_number (c.side.ensures.side ∙ ap (λ (p : Stored). p.side) (c.planes.ensures ∙ c.home.ensures.planes)),
    ))

pub returns-clause-stands : goal.returns-clause-stands
returns-clause-stands c m by before after end tables true_tables stands moves =
    let same = sym c.self.view_is in
    let l : StoredLease = record {
      work = c.self.inside.work;
      rows = c.self.inside.rows;
      board = c.self.inside.board;
    } in
    let there = subst (λ (x : StoredLease). StandsOut x before m by) same stands in
    subst (λ (w : StoredWork). StandsOut (record { work = w; rows = 0; board = c.self.inside.board }) after m by) (sym c.go.ensures)
    (stands_after l before after end tables there.fits moves m by c.self.invariant.work
    (subst (λ (x : StoredLease). TablesFit x.work tables) same true_tables) there
    (omega (
      arith,
      c.if-from-side.false,
      c.from.ensures,
      c.number-side.ensures.value,
      ap side_number (c.side.ensures.side ∙ ap (λ (p : Stored). p.side) (c.planes.ensures ∙ c.home.ensures.planes)),
    )))

pub returns-clause-fits : goal.returns-clause-fits
returns-clause-fits c before after end tables fits moves =
    let same = sym c.self.view_is in
    let l : StoredLease = record {
      work = c.self.inside.work;
      rows = c.self.inside.rows;
      board = c.self.inside.board;
    } in
    subst (λ (w : StoredWork). JobFits (record { work = w; rows = 0; board = c.self.inside.board }) after) (sym c.go.ensures)
    (fits_after l before after end tables
    (subst (λ (x : StoredLease). JobFits x before) same fits) moves
    (omega (
      arith,
      c.if-from-side.false,
      c.from.ensures,
      c.number-side.ensures.value,
      ap side_number (c.side.ensures.side ∙ ap (λ (p : Stored). p.side) (c.planes.ensures ∙ c.home.ensures.planes)),
    )))
