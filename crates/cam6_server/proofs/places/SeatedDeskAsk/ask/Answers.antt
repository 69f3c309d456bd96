use Rattle.std.proofs.Common.{subst, sym}
use Rattle.cam6_handoff.specs.Standing.{Stance, IsDeskOf}
use Rattle.cam6_server.proofs.places.SeatedDeskAsk.ask.Goals as goal

pub invariant_of-self : goal.invariant_of-self
invariant_of-self g c = c.ask.ensures.user c.self.inside.user c.self.invariant

pub returns-clause-user : goal.returns-clause-user
returns-clause-user g c = λ u is.
    c.ask.ensures.user u (subst (λ (d : Stance). IsDeskOf u d) (sym c.self.view_is) is)
