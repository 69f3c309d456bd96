use Rattle.cam6_session.proofs.Telling.{outcome_told}
use Rattle.cam6_session.proofs.replays.respond_to.Goals as goal

pub returns : goal.returns
returns g c l said =
    outcome_told _ l _ _ c.args.event c.apply-outcome.result _ _ c.tell_outcome.ensures.told
    c.tell_outcome.ensures.memory said c.apply-outcome.ensures.goes c.apply-outcome.ensures.loads
    c.apply-outcome.ensures.others
