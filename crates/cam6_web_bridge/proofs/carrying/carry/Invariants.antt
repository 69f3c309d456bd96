use Rattle.cam6_web_bridge.proofs.Steps.{IsSoFar}
use Rattle.cam6_web_bridge.proofs.carrying.carry.Given as goal

abbrev pub invariant-loop-rounds : goal.invariant-loop-rounds
invariant-loop-rounds g l =
    IsSoFar g.P.Page.speaking g.H.Host.answering (g.P.Page.stands l.fn.page) (g.H.Host.stands l.fn.host)
    l.silences l.rounds (g.P.Page.stands l.page) (g.H.Host.stands l.host)

abbrev pub decreases-loop-rounds : goal.decreases-loop-rounds
decreases-loop-rounds g l = l.rounds
