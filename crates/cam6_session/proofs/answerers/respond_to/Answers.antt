use Rattle.std.proofs.Common.{ap, ◌∙◌}
use Rattle.std.proofs.KnownBytes.{Keeps-refl}
use Rattle.cam6_wire.specs.Replies.{reply_bytes}
use Rattle.cam6_session.proofs.Taking.{command_takes_memory}
use Rattle.cam6_session.proofs.Telling.{reply_told}
use Rattle.cam6_session.proofs.answerers.respond_to.Goals as goal

pub returns-clause-responds : goal.returns-clause-responds
returns-clause-responds g c l said =
    let written = ap reply_bytes c.in-Ok.ensures.reply in
    reply_told _ l _ _ c.args.command _ _ _ c.tell_reply.ensures said written
    c.in-Ok.ensures.machine

pub returns-in_default-clause-responds : goal.returns-in_default-clause-responds
returns-in_default-clause-responds g c l said =
    (Keeps-refl _, c.in_default.ensures.err, command_takes_memory l c.args.command said)
