-- A message is sent, or it isn't.
use Rattle.std.proofs.Common.{◌≡◌, ℕ, List, [], refl, inl, inr}
use Rattle.std.specs.Prelude.{Option, Result, IsOk, true}
use Rattle.tungstenite.specs.Connection.{Effect, can_write, check_can_write, write_step}
use Rattle.tungstenite.specs.Content.{Content, ping, text}
use Rattle.tungstenite.specs.Failure.{IsIo, IsOutside, WriteFails}
use Rattle.tungstenite.specs.Socket.{Socket, Writes}
use Rattle.tungstenite.specs.declared.error.Error.{Error}
use Rattle.tungstenite.specs.declared.error.Error.TheVariants as error
use Rattle.websocket.specs.Frame.{after_check}
use Rattle.websocket.specs.declared.error.Error.{Error as FrameError}
use Rattle.websocket.specs.declared.protocol.state.WebSocketState.{WebSocketState}
use Rattle.websocket.specs.declared.protocol.state.WebSocketState.TheVariants as state
use Rattle.cam6_web_bridge.specs.Sockets.{IsSendable, IsUnsent, reason_unsent}

-- a socket that takes messages refuses none for its state
taken : (now : WebSocketState) (next : Result Effect FrameError) → can_write now ≡ true → IsOk next
    → IsOk (after_check (check_can_write now) next)
taken state.Active next takes ok = ok
taken state.Failed next takes ok = let never : ⊥ = cc in absurd never
taken state.ClosedByUs next takes ok = let never : ⊥ = cc in absurd never
taken state.ClosedByPeer next takes ok = let never : ⊥ = cc in absurd never
taken state.CloseAcknowledged next takes ok = let never : ⊥ = cc in absurd never
taken state.Terminated next takes ok = let never : ⊥ = cc in absurd never

pub text_is_sendable : (line : List ℕ) → IsSendable (text line)
text_is_sendable line conn takes = taken conn.state _ takes refl

pub ping_is_sendable : IsSendable (ping [])
ping_is_sendable conn takes = taken conn.state _ takes refl

module _ {S : Type 0} (contents : S → Option (List ℕ)) (content : Content) (s t : Socket S) where
  -- from outside: the stream failed, or an allocation did
  outside : (e : Error) → IsOutside e → (IsIo e → Writes contents s t (write_step s.conn content))
      → (e ≡ error.OutOfMemory → t ≡ s) → IsUnsent contents content (reason_unsent e) s t
  outside (error.Io cause) is io memory = inl (io tt)
  outside error.OutOfMemory is io memory = memory refl
  outside error.ConnectionClosed is io memory = absurd is
  outside error.AlreadyClosed is io memory = absurd is
  outside (error.Capacity cause) is io memory = absurd is
  outside (error.Protocol cause) is io memory = absurd is
  outside error.WriteBufferFull is io memory = absurd is
  outside error.Utf8 is io memory = absurd is
  outside error.AttackAttempt is io memory = absurd is
  outside (error.Handshake cause) is io memory = absurd is
  outside error.HandshakeIncomplete is io memory = absurd is
  outside error.JunkAfterRequest is io memory = absurd is
  outside error.CustomResponseSuccessful is io memory = absurd is
  outside error.Url is io memory = absurd is
  outside (error.Http response) is io memory = absurd is
  outside (error.Refused response) is io memory = absurd is

  -- why a message wasn't sent by a socket that takes messages, and how much of it was
  pub unsent : (e : Error) → IsSendable content → can_write s.conn.state ≡ true
      → WriteFails (write_step s.conn content) e → (e ≡ error.WriteBufferFull → t ≡ s)
      → (IsIo e → Writes contents s t (write_step s.conn content))
      → (e ≡ error.OutOfMemory → t ≡ s) → IsUnsent contents content (reason_unsent e) s t
  unsent e sendable takes (inl is) full io memory = rw is (inr (full is))
  unsent e sendable takes (inr (inl is)) full io memory = outside e is io memory
  unsent e sendable takes (inr (inr is)) full io memory =
      let ok = sendable s.conn takes in let err = is.1 in let never : ⊥ = cc in absurd never
