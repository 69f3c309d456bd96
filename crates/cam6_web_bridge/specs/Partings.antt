-- The code and the reason with which a page is told of an end.
use Rattle.std.specs.Prelude.{ℕ, List, codes}
use Rattle.websocket.specs.declared.protocol.frame.coding.CloseCode.{CloseCode}
use Rattle.websocket.specs.declared.protocol.frame.coding.CloseCode.TheVariants as code
use Rattle.cam6_web_bridge.specs.declared.carrying.End.{End}
use Rattle.cam6_web_bridge.specs.declared.carrying.End.TheVariants as end
use Rattle.cam6_web_bridge.specs.declared.hosts.Silence.TheVariants as silence
use Rattle.cam6_web_bridge.specs.declared.pages.Unheard.{Unheard}
use Rattle.cam6_web_bridge.specs.declared.pages.Unheard.TheVariants as unheard
use Rattle.cam6_web_bridge.specs.declared.pages.Unsent.{Unsent}
use Rattle.cam6_web_bridge.specs.declared.pages.Unsent.TheVariants as unsent
use Rattle.cam6_web_bridge.specs.declared.partings.Away.{Away}
use Rattle.cam6_web_bridge.specs.declared.partings.Away.TheVariants as away

abbrev pub Farewell : Type 0
Farewell = CloseCode × List ℕ

-- of a page that can't be heard
abbrev pub farewell_unheard : Unheard → Farewell
farewell_unheard unheard.Closed = (code.Normal, codes "the page closed")
farewell_unheard unheard.Lost = (code.Protocol, codes "the connection failed")
farewell_unheard unheard.Protocol = (code.Protocol, codes "the protocol was broken")
farewell_unheard unheard.NotUtf8 = (code.Invalid, codes "a text is UTF-8")
farewell_unheard unheard.NotText = (code.Unsupported, codes "a message is a text")
farewell_unheard unheard.TooLong = (code.Size, codes "a message has 2097152 bytes at most")
farewell_unheard unheard.HostGone = (code.Away, codes "the host is gone")
farewell_unheard unheard.NoMemory = (code.Error, codes "no memory")

-- of a page to which a message wasn't sent
abbrev pub farewell_unsent : Unsent → Farewell
farewell_unsent unsent.Lost = (code.Protocol, codes "the connection failed")
farewell_unsent unsent.Closed = (code.Protocol, codes "the connection failed")
farewell_unsent unsent.NoMemory = (code.Error, codes "no memory")

-- of each end: 1000, 1001, 1002, 1003, 1007, 1008, 1009 or 1011 as a number
abbrev pub farewell : End → Farewell
farewell (end.Unheard why) = farewell_unheard why
farewell end.NotALine = (code.Policy, codes "a message is one line")
farewell end.TooLong = (code.Size, codes "a message has 2097152 bytes at most")
farewell (end.Unanswered silence.NoMemory) = (code.Error, codes "no memory")
farewell (end.Unanswered silence.Unwritten) = (code.Away, codes "the host is gone")
farewell (end.Unanswered silence.Unread) = (code.Away, codes "the host is gone")
farewell (end.Unanswered silence.Ended) = (code.Away, codes "the host is gone")
farewell end.NoText = (code.Away, codes "the host is gone")
farewell (end.Unsent why) = farewell_unsent why
farewell (end.Unpinged why) = farewell_unsent why
farewell end.Silent = (code.Policy, codes "no answer to pings")
farewell end.TurnBound = (code.Policy, codes "turn bound reached")

-- of a page that is turned away: 1001 or 1011 as a number
abbrev pub farewell_away : Away → Farewell
farewell_away away.NoHost = (code.Away, codes "the host is gone")
farewell_away away.NoMemory = (code.Error, codes "no memory")
