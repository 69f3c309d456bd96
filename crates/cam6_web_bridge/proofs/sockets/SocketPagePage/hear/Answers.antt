use Rattle.cam6_web_bridge.proofs.Heard.{if_heard, if_unheard}
use Rattle.cam6_web_bridge.proofs.sockets.SocketPagePage.hear.Goals as goal

pub returns-clause-heard : goal.returns-clause-heard
returns-clause-heard g c =
    if_heard g.S.Read.remaining g.S.Write.contents c.args.self.now.socket c.hear.new.socket
    c.hear.result c.hear.ensures

pub returns-clause-unheard : goal.returns-clause-unheard
returns-clause-unheard g c =
    if_unheard g.S.Read.remaining g.S.Write.contents c.args.self.now.socket c.hear.new.socket
    c.hear.result c.hear.ensures
