use Rattle.std.proofs.Common.{ap, subst}
use Rattle.cam6_station.specs.declared.stations.Post.{Post}
use Rattle.cam6_station.specs.declared.stations.Post.TheVariants.{Loaded}
use Rattle.cam6_station.specs.declared.stations.Preempted.TheVariants.{Back, Lost}
use Rattle.cam6_station.specs.Held.{Manned, Stationed, idle, dead}
use Rattle.cam6_station.specs.Calls.{PreemptGives}
use Rattle.cam6_station.specs.Internal.Posts.{manned, IsManned}
use Rattle.cam6_station.proofs.Shifts.{comes_off, goes_home, as_known}
use Rattle.cam6_station.proofs.stations.Station.preempt.Goals as goal

pub returns-in-Ok-clause-gives : goal.returns-in-Ok-clause-gives
returns-in-Ok-clause-gives g c =
    let load = g.B.Board.held c.self.inside.board in
    let u = c.take_lease-user.result.0 in
    let l = c.take_lease-user.result.1 in
    let was = c.take_lease-user.ensures.was in
    let held = subst (λ (p : Post). IsManned p load) was c.self.invariant in
    as_known (λ (s after : Manned). PreemptGives s (Back u c.preempt.result) after)
    c.self.inside.post (Loaded u l) load c.args.self.now.at
    (manned c.take_lease-user.new.post (g.B.Board.held c.unload.new.self)) idle was
    (ap (λ (s : Stationed). s.at) c.self.view_is)
    (ap (λ (p : Post). manned p (g.B.Board.held c.unload.new.self)) c.take_lease-user.ensures.after)
    (comes_off u l load c.in-Ok.image c.preempt.result held c.in-Ok.ensures.image
    c.preempt.ensures.stands c.preempt.ensures.left c.preempt.ensures.home)

pub returns-in-Err-clause-gives : goal.returns-in-Err-clause-gives
returns-in-Err-clause-gives g c =
    let load = g.B.Board.held c.self.inside.board in
    let u = c.take_lease-user-in-Err.result.0 in
    let l = c.take_lease-user-in-Err.result.1 in
    let was = c.take_lease-user-in-Err.ensures.was in
    let held = subst (λ (p : Post). IsManned p load) was c.self.invariant in
    as_known (λ (s after : Manned). PreemptGives s (Lost u c.lost.result) after)
    c.self.inside.post (Loaded u l) load c.args.self.now.at
    (manned c.take_lease-user-in-Err.new.post (g.B.Board.held c.unload.new.self)) dead was
    (ap (λ (s : Stationed). s.at) c.self.view_is)
    (ap (λ (p : Post). manned p (g.B.Board.held c.unload.new.self))
    c.take_lease-user-in-Err.ensures.after)
    (goes_home u l load c.lost.result held c.lost.ensures.stands c.lost.ensures.left
    c.lost.ensures.home).1
