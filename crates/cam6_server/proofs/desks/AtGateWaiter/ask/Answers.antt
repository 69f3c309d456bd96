use Rattle.cam6_handoff.proofs.Asking.{asked}
use Rattle.cam6_server.proofs.desks.AtGateWaiter.ask.Goals as goal

pub returns-in-Waiting-clause-gives : goal.returns-in-Waiting-clause-gives
returns-in-Waiting-clause-gives g c =
    asked _ _ _ c.args.command c.in_ok-reply.field-0 _ c.in-Waiting.is c.in_ok-reply.ensures.gives
    c.wait.ensures
