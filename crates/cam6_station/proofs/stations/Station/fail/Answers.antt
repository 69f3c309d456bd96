use Rattle.std.proofs.Common.{◌∙◌, Some, sym, ap, subst}
use Rattle.cam6_station.specs.declared.stations.Post.{Post}
use Rattle.cam6_station.specs.Held.{Manned, Stationed}
use Rattle.cam6_station.specs.Calls.{FailGives}
use Rattle.cam6_station.specs.Internal.Posts.{manned, IsManned}
use Rattle.cam6_station.proofs.Shifts.{goes_home}
use Rattle.cam6_station.proofs.stations.Station.fail.Goals as goal

pub returns-clause-back : goal.returns-clause-back
returns-clause-back g c =
    let load = g.B.Board.held c.self.inside.board in
    let u = c.in-Loaded.user in
    let l = c.in-Loaded.lease in
    let is = ap (λ (p : Post). manned p load) c.in-Loaded.ensures.value
    ∙ ap (λ (s : Stationed). s.at) c.self.view_is in
    let held = subst (λ (p : Post). IsManned p load) (sym c.in-Loaded.ensures.value)
    c.self.invariant in
    subst (λ (s : Manned). FailGives s (Some (u, c.lost.result))) is
    (goes_home u l load c.lost.result held c.lost.ensures.stands c.lost.ensures.left
    c.lost.ensures.home).2
