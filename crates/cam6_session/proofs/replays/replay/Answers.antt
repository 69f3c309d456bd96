use Rattle.cam6_session.proofs.Replaying.{writes_outcomes}
use Rattle.cam6_session.proofs.replays.replay.Goals as goal

pub returns-clause-headline : goal.returns-clause-headline
returns-clause-headline g c =
    writes_outcomes _ _ _ _ _ _ _ c.answer_lines.ensures.served
