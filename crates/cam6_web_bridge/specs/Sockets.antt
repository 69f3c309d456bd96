-- A page on a WebSocket, by the state of the socket. It may be unknown what is read and written.
use Rattle.std.specs.Prelude.{◌≡◌, ◌⊎◌, ℕ, List, [], true, false}
use Rattle.std.specs.Prelude.{Option, Some, Result, Ok, Err, IsOk}
use Rattle.std.specs.IoError.{error_kind}
use Rattle.std.specs.declared.io.ErrorKind.{ErrorKind}
use Rattle.std.specs.declared.io.ErrorKind.TheVariants.{WouldBlock, TimedOut}
use Rattle.std.specs.declared.io.ErrorKind.TheVariants.{HostUnreachable}
use Rattle.tungstenite.specs.Connection.{Connection, can_write, write_step}
use Rattle.tungstenite.specs.Content.{Content, text, ping}
use Rattle.tungstenite.specs.Socket.{Socket, Flushed, IsFresh, Reads, Writes}
use Rattle.tungstenite.specs.declared.error.Error.{Error}
use Rattle.tungstenite.specs.declared.error.Error.TheVariants as error
use Rattle.tungstenite.specs.declared.message.Message.{Message}
use Rattle.tungstenite.specs.declared.message.Message.TheVariants as message
use Rattle.websocket.specs.declared.error.ProtocolError.TheVariants.{ResetWithoutClosingHandshake}
use Rattle.websocket.specs.declared.protocol.config.Role.TheVariants.{Server}
use Rattle.cam6_web_bridge.specs.Lines.{max_message}
use Rattle.cam6_web_bridge.specs.Pages.{PageWays}
use Rattle.cam6_web_bridge.specs.declared.pages.PageInput.{PageInput}
use Rattle.cam6_web_bridge.specs.declared.pages.PageInput.TheVariants as said
use Rattle.cam6_web_bridge.specs.declared.pages.Unheard.{Unheard}
use Rattle.cam6_web_bridge.specs.declared.pages.Unheard.TheVariants as unheard
use Rattle.cam6_web_bridge.specs.declared.pages.Unsent.{Unsent}
use Rattle.cam6_web_bridge.specs.declared.pages.Unsent.TheVariants as unsent

-- what is meant by an error of the stream: silence if nothing came in time, or that the page can't be
-- heard any more
abbrev pub meaning_of_kind : ErrorKind → Result PageInput Unheard
meaning_of_kind WouldBlock = Ok said.Nothing
meaning_of_kind TimedOut = Ok said.Nothing
meaning_of_kind HostUnreachable = Err unheard.HostGone
meaning_of_kind _ = Err unheard.Lost

-- what is meant by an error of a read
abbrev pub meaning_of_error : Error → Result PageInput Unheard
meaning_of_error (error.Io cause) = meaning_of_kind (error_kind cause)
meaning_of_error error.ConnectionClosed = Err unheard.Closed
meaning_of_error (error.Protocol ResetWithoutClosingHandshake) = Err unheard.Lost
meaning_of_error error.Utf8 = Err unheard.NotUtf8
meaning_of_error (error.Capacity cause) = Err unheard.TooLong
meaning_of_error error.OutOfMemory = Err unheard.NoMemory
meaning_of_error _ = Err unheard.Protocol

-- what is meant by what was read: only a text is handed on
abbrev pub meaning_of : Result Message Error → Result PageInput Unheard
meaning_of (Ok (message.Text line)) = Ok (said.Text line)
meaning_of (Ok (message.Ping bytes)) = Ok said.Life
meaning_of (Ok (message.Pong bytes)) = Ok said.Life
meaning_of (Ok (message.Binary bytes)) = Err unheard.NotText
meaning_of (Ok (message.Close frame)) = Err unheard.Closed
meaning_of (Err e) = meaning_of_error e

-- why a message wasn't sent
abbrev pub reason_unsent : Error → Unsent
reason_unsent error.OutOfMemory = unsent.NoMemory
reason_unsent _ = unsent.Lost

-- a socket that takes messages takes this one
abbrev pub IsSendable : Content → Type 0
IsSendable content =
    (conn : Connection) → can_write conn.state ≡ true → IsOk (write_step conn content)

module _ {S : Type 0} where
  -- a socket on a stream, whose handshake is done. These bytes were read after it
  pub record IsNew (stream : S) (unread : List ℕ) (s : Socket S) : Type 0 where
    pub fresh : IsFresh (record s { input = [] }) stream Server
    pub input : s.input ≡ unread
    pub message : s.conn.config.max_message_size ≡ Some max_message
    pub frame : s.conn.config.max_frame_size ≡ Some max_message

  -- what a read gave has this meaning
  abbrev pub Listens : (S → Option (List ℕ)) → Result PageInput Unheard → Socket S → Socket S → Type 0
  Listens remaining heard s t =
      (read : Result Message Error) × Reads remaining s t read × (heard ≡ meaning_of read)

  -- all that waited was sent, and then this was heard; or it couldn't be sent
  abbrev pub Hearing : (S → Option (List ℕ)) → (S → Option (List ℕ)) → Result PageInput Unheard
      → Socket S → Socket S → Type 0
  Hearing remaining contents heard s t =
      ((between : Socket S) × Flushed contents s between × (between.output ≡ []) ×
      Listens remaining heard between t)
      ⊎ ((heard ≡ Err unheard.Lost) × Flushed contents s t)

  -- the frame of a message was sent, after all that waited
  abbrev pub Sends : (S → Option (List ℕ)) → Content → Socket S → Socket S → Type 0
  Sends contents content s t = Writes contents s t (write_step s.conn content) × (t.output ≡ [])

  -- it wasn't sent whole: a prefix of what waited and of its frame was, or nothing; or nothing was, as
  -- the socket takes no more messages, or as an allocation failed
  abbrev pub IsUnsent : (S → Option (List ℕ)) → Content → Unsent → Socket S → Socket S → Type 0
  IsUnsent contents content unsent.Lost s t =
      Writes contents s t (write_step s.conn content) ⊎ (t ≡ s)
  IsUnsent contents content unsent.Closed s t = (can_write s.conn.state ≡ false) × (t ≡ s)
  IsUnsent contents content unsent.NoMemory s t = t ≡ s

  -- how a page on a WebSocket is heard and is sent messages
  abbrev pub by_socket : (S → Option (List ℕ)) → (S → Option (List ℕ)) → PageWays (Socket S)
  by_socket remaining contents = record {
    hears = λ s heard t. Hearing remaining contents (Ok heard) s t;
    unheard = λ s why t. Hearing remaining contents (Err why) s t;
    sends = λ s line t. Sends contents (text line) s t;
    unsent = λ s line why t. IsUnsent contents (text line) why s t;
    pings = λ s t. Sends contents (ping []) s t;
    unpinged = λ s why t. IsUnsent contents (ping []) why s t;
  }
