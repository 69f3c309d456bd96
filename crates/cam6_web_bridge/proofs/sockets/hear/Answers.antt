use Rattle.std.proofs.Common.{inl}
use Rattle.cam6_web_bridge.proofs.sockets.hear.Goals as goal

pub returns-in-Ok : goal.returns-in-Ok
returns-in-Ok g c =
    inl (_, c.send_rest.ensures.sent, c.in-Ok.ensures.empty, c.receive_message.ensures)
