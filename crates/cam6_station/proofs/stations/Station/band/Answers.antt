use Rattle.std.proofs.Common.{◌≡◌, ◌∙◌, ℕ, sym, ap, subst, arith}
use Rattle.cam6_board.specs.Images.{planes_in}
use Rattle.cam6_slot.specs.Leases.{StoredLease}
use Rattle.cam6_slot.specs.Lefts.{lease_home}
use Rattle.cam6_slot.specs.Stands.{StandsOut}
use Rattle.cam6_station.specs.declared.stations.Post.{Post}
use Rattle.cam6_station.specs.declared.stations.Post.TheVariants.{Loaded}
use Rattle.cam6_station.specs.declared.stations.Banded.TheVariants.{More, Last, Lost}
use Rattle.cam6_station.specs.Held.{Manned, Stationed, idle, dead}
use Rattle.cam6_station.specs.Calls.{BandGives}
use Rattle.cam6_station.specs.Internal.Posts.{manned, IsManned}
use Rattle.cam6_station.proofs.Shifts.{keeps, goes_on, fits_on, ends, ends_lost, goes_home}
use Rattle.cam6_station.proofs.Shifts.{limit_lost, limit_back, as_known}
use Rattle.cam6_station.proofs.stations.Station.band.Goals as goal

pub returns-in-Err-clause-gives : goal.returns-in-Err-clause-gives
returns-in-Err-clause-gives g c =
    let load = g.B.Board.held c.self.inside.board in
    let now = g.B.Board.held c.band.new.self in
    let u = c.take_lease-user.result.0 in
    let l = c.take_lease-user.result.1 in
    let was = c.in-Loaded.is ∙ c.take_lease-user.ensures.was in
    let held = subst (λ (p : Post). IsManned p load) was c.self.invariant in
    as_known (λ (s after : Manned). BandGives s (Lost u c.lost.result) after)
    c.self.inside.post (Loaded u l) load c.args.self.now.at (manned c.take_lease-user.new.post now) dead
    was (ap (λ (s : Stationed). s.at) c.self.view_is)
    (ap (λ (p : Post). manned p now) c.take_lease-user.ensures.after)
    (goes_home u l load c.lost.result held c.lost.ensures.stands c.lost.ensures.left
    c.lost.ensures.home).0

pub invariant_of-self-then-left-gt0 : goal.invariant_of-self-then-left-gt0
invariant_of-self-then-left-gt0 g c =
    let load = g.B.Board.held c.self.inside.board in
    let after = g.B.Board.held c.band.new.self in
    let u = c.in-Loaded.field-0 in
    let l = c.in-Loaded.lease in
    let k = c.advance.new.self in
    let by = c.advance.ensures in
    let held = subst (λ (p : Post). IsManned p load) c.in-Loaded.is c.self.invariant in
    keeps u l k by.stands by.fits by.tables by.left by.home c.in-Ok.end load after held
    c.in-Ok.ensures.ok (omega (arith, c.if-left-gt0.true, c.left-left.ensures.left))
    c.left-left.ensures.always

pub returns-then-left-gt0-clause-gives : goal.returns-then-left-gt0-clause-gives
returns-then-left-gt0-clause-gives g c =
    let load = g.B.Board.held c.self.inside.board in
    let after = g.B.Board.held c.band.new.self in
    let u = c.in-Loaded.field-0 in
    let l = c.in-Loaded.lease in
    let k = c.advance.new.self in
    let by = c.advance.ensures in
    let held = subst (λ (p : Post). IsManned p load) c.in-Loaded.is c.self.invariant in
    let is = ap (λ (p : Post). manned p load) (sym c.in-Loaded.is)
    ∙ ap (λ (s : Stationed). s.at) c.self.view_is in
    subst (λ (s : Manned). BandGives s (More c.left-left.result) (manned (Loaded u k) after)) is
    (goes_on u l k by.stands by.fits by.tables by.left by.home c.in-Ok.end load after
    c.left-left.result held c.in-Ok.ensures.ok c.left-left.ensures.left
    (omega (arith, c.if-left-gt0.true, c.left-left.ensures.left)) c.left-left.ensures.always
    by.board)

pub finish-requires-clause-limit : goal.finish-requires-clause-limit
finish-requires-clause-limit g c =
    let load = g.B.Board.held c.self.inside.board in
    let after = g.B.Board.held c.band.new.self in
    let u = c.in-Loaded.field-0 in
    let l = c.in-Loaded.lease in
    let k = c.advance.new.self in
    let by = c.advance.ensures in
    let held = subst (λ (p : Post). IsManned p load) c.in-Loaded.is c.self.invariant in
    let same : c.take_lease-user-in-Ok-unload.result.1 ≡ k =
    cc c.take_lease-user-in-Ok-unload.ensures.was in
    sym (ap (λ i. (planes_in i).limit) c.at_rest.ensures)
    ∙ limit_back k after c.in-Ok-unload.image
    (fits_on u l k by.stands by.fits by.tables by.left by.home c.in-Ok.end load after held
    c.in-Ok.ensures.ok) c.in-Ok-unload.ensures.image
    ∙ ap (λ (x : StoredLease). x.work.home.limit) (sym same)

pub lost-requires-in-Err-unload : goal.lost-requires-in-Err-unload
lost-requires-in-Err-unload g c =
    let load = g.B.Board.held c.self.inside.board in
    let after = g.B.Board.held c.band.new.self in
    let u = c.in-Loaded.field-0 in
    let l = c.in-Loaded.lease in
    let k = c.advance.new.self in
    let by = c.advance.ensures in
    let held = subst (λ (p : Post). IsManned p load) c.in-Loaded.is c.self.invariant in
    let same : c.take_lease-user-in-Err-unload.result.1 ≡ k =
    cc c.take_lease-user-in-Err-unload.ensures.was in
    limit_lost k after c.in-Err-unload.fault.spare.planes.limit
    (fits_on u l k by.stands by.fits by.tables by.left by.home c.in-Ok.end load after held
    c.in-Ok.ensures.ok) c.in-Err-unload.ensures.spare
    ∙ ap (λ (x : StoredLease). x.work.home.limit) (sym same)

pub returns-in-Ok-unload-clause-gives : goal.returns-in-Ok-unload-clause-gives
returns-in-Ok-unload-clause-gives g c =
    let load = g.B.Board.held c.self.inside.board in
    let after = g.B.Board.held c.band.new.self in
    let u = c.in-Loaded.field-0 in
    let l = c.in-Loaded.lease in
    let k = c.advance.new.self in
    let by = c.advance.ensures in
    let held = subst (λ (p : Post). IsManned p load) c.in-Loaded.is c.self.invariant in
    let now = g.B.Board.held c.unload.new.self in
    let same : c.take_lease-user-in-Ok-unload.result.1 ≡ k =
    cc c.take_lease-user-in-Ok-unload.ensures.was in
    let user : c.take_lease-user-in-Ok-unload.result.0 ≡ u =
    cc c.take_lease-user-in-Ok-unload.ensures.was in
    as_known (λ (s out : Manned).
    BandGives s (Last c.take_lease-user-in-Ok-unload.result.0 c.finish.result) out)
    c.self.inside.post (Loaded u l) load c.args.self.now.at
    (manned c.take_lease-user-in-Ok-unload.new.post now) idle c.in-Loaded.is
    (ap (λ (s : Stationed). s.at) c.self.view_is)
    (ap (λ (p : Post). manned p now) c.take_lease-user-in-Ok-unload.ensures.after)
    (subst (λ (v : ℕ). BandGives (manned (Loaded u l) load) (Last v c.finish.result) idle) (sym user)
    (ends u l k by.stands by.fits by.tables by.left by.home c.in-Ok.end load after
    c.in-Ok-unload.image c.at_rest.result c.finish.result
    (λ m by job stands at.
    c.finish.ensures m by job (subst (λ (x : StoredLease). StandsOut x job m by) (sym same) stands)
    at) held
    c.in-Ok.ensures.ok c.in-Ok-unload.ensures.image c.at_rest.ensures
    (omega (arith, c.if-left-gt0.false, c.left-left.ensures.left))))

pub returns-in-Err-unload-clause-gives : goal.returns-in-Err-unload-clause-gives
returns-in-Err-unload-clause-gives g c =
    let load = g.B.Board.held c.self.inside.board in
    let after = g.B.Board.held c.band.new.self in
    let u = c.in-Loaded.field-0 in
    let l = c.in-Loaded.lease in
    let k = c.advance.new.self in
    let by = c.advance.ensures in
    let held = subst (λ (p : Post). IsManned p load) c.in-Loaded.is c.self.invariant in
    let now = g.B.Board.held c.unload.new.self in
    let lost = c.lost-in-Err-unload.ensures in
    let same : c.take_lease-user-in-Err-unload.result.1 ≡ k =
    cc c.take_lease-user-in-Err-unload.ensures.was in
    let user : c.take_lease-user-in-Err-unload.result.0 ≡ u =
    cc c.take_lease-user-in-Err-unload.ensures.was in
    as_known (λ (s out : Manned).
    BandGives s (Lost c.take_lease-user-in-Err-unload.result.0 c.lost-in-Err-unload.result) out)
    c.self.inside.post (Loaded u l) load c.args.self.now.at
    (manned c.take_lease-user-in-Err-unload.new.post now) dead c.in-Loaded.is
    (ap (λ (s : Stationed). s.at) c.self.view_is)
    (ap (λ (p : Post). manned p now) c.take_lease-user-in-Err-unload.ensures.after)
    (subst (λ (v : ℕ).
    BandGives (manned (Loaded u l) load) (Lost v c.lost-in-Err-unload.result) dead) (sym user)
    (ends_lost u l k by.stands by.fits by.tables by.left by.home c.in-Ok.end load after
    c.lost-in-Err-unload.result
    (λ m by job stands.
    lost.stands m by job (subst (λ (x : StoredLease). StandsOut x job m by) (sym same) stands))
    (lost.left ∙ ap (λ (x : StoredLease). lease_home x) same)
    (lost.home ∙ ap (λ (x : StoredLease). lease_home x) same) held c.in-Ok.ensures.ok))
