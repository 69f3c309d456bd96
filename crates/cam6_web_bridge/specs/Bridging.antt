-- A bridge on a WebSocket, from the handshake on.
use Rattle.std.specs.Prelude.{ℕ, List, Option}
use Rattle.tungstenite.specs.Socket.{Socket}
use Rattle.cam6_web_bridge.specs.Hosts.{HostWays}
use Rattle.cam6_web_bridge.specs.Sockets.{IsNew, by_socket}
use Rattle.cam6_web_bridge.specs.Bridges.{BridgesUntil}
use Rattle.cam6_web_bridge.specs.declared.carrying.End.{End}

-- a bridge with a host, which stood at h before it and stands at k after it, over a new socket
abbrev pub BridgesOn : {S H : Type 0} → (S → Option (List ℕ)) → (S → Option (List ℕ)) → HostWays H → S
    → List ℕ → End → H → H → Type 0
BridgesOn {S} remaining contents host stream unread end h k =
    (s t : Socket S) × IsNew stream unread s ×
    BridgesUntil (by_socket remaining contents) host end s h t k
