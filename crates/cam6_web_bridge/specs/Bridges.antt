-- A bridge between a page and a host, and what each end of it leaves.
use Rattle.std.specs.Prelude.{◌≡◌, ◌<◌, ◌+◌, ℕ, List, [], ◌∷◌, length, Ok, Err, Result, IsUtf8}
use Rattle.cam6_web_bridge.specs.Lines.{HasNoLf}
use Rattle.cam6_web_bridge.specs.Hosts.{HostWays}
use Rattle.cam6_web_bridge.specs.Lines.{IsLine, max_message}
use Rattle.cam6_web_bridge.specs.Pages.{PageWays}
use Rattle.cam6_web_bridge.specs.declared.carrying.End.{End}
use Rattle.cam6_web_bridge.specs.declared.carrying.End.TheVariants as end
use Rattle.cam6_web_bridge.specs.declared.pages.PageInput.TheVariants as said

-- what came of what was heard last: a line that the host answered by this text, which was sent; a
-- sign of life; or nothing was heard, and a ping was sent
pub data Heard : Type 0 where
  Line : List ℕ → List ℕ → Heard
  Life : Heard
  Nothing : Heard

-- how often in a row a page may be silent, and how much may be heard of it
abbrev pub max_silences : ℕ
max_silences = 3

abbrev pub max_rounds : ℕ
max_rounds = 1099511627776

-- how often in a row the page was silent, with this one after so many silences
abbrev pub silences_after : ℕ → Heard → ℕ
silences_after before (Line line answer) = 0
silences_after before Life = 0
silences_after before Nothing = before + 1

-- the same of all that was heard, with what was heard last at the front
abbrev pub silences : List Heard → ℕ
silences [] = 0
silences (last ∷ before) = silences_after (silences before) last

-- the next message is a line; the host answered it by this text, which was sent
pub record Carries {P H : Type 0} (page : PageWays P) (host : HostWays H) (s : P) (h : H)
    (line answer : List ℕ) (t : P) (k : H) : Type 0 where
  pub between : P
  pub heard : page.hears s (said.Text line) between
  pub is_line : IsLine line
  pub answered : host.answers h line answer k
  pub sent : page.sends between answer t

-- nothing was heard, and a ping was sent
abbrev pub Pings : {P : Type 0} → PageWays P → P → P → Type 0
Pings {P} page s t = (between : P) × page.hears s said.Nothing between × page.pings between t

-- one step of a bridge
abbrev pub Goes : {P H : Type 0} → PageWays P → HostWays H → P → H → Heard → P → H → Type 0
Goes page host s h (Line line answer) t k = Carries page host s h line answer t k
Goes page host s h Life t k = page.hears s said.Life t × (k ≡ h)
Goes page host s h Nothing t k = Pings page s t × (k ≡ h)

-- a bridge so far, with what was heard last at the front
abbrev pub Bridges : {P H : Type 0} → PageWays P → HostWays H → P → H → List Heard → P → H → Type 0
Bridges page host s h [] t k = (t ≡ s) × (k ≡ h)
Bridges {P} {H} page host s h (last ∷ before) t k =
    (u : P) × (j : H) × Bridges page host s h before u j × Goes page host u j last t k

-- the next message is this text, and the host wasn't asked
abbrev pub HearsAlone : {P H : Type 0} → PageWays P → P → H → List ℕ → P → H → Type 0
HearsAlone page s h line t k = page.hears s (said.Text line) t × (k ≡ h)

-- the next message is this line, which the host answered by this text; it wasn't sent yet
pub record IsAnswered {P H : Type 0} (page : PageWays P) (host : HostWays H) (s : P) (h : H)
    (line answer : List ℕ) (t : P) (k : H) : Type 0 where
  pub heard : page.hears s (said.Text line) t
  pub is_line : IsLine line
  pub answered : host.answers h line answer k

-- what each end leaves of what was heard last, after so many silences in a row: a text that is no
-- line wasn't handed over; a line that was handed over wasn't answered, or its answer isn't UTF-8, or
-- wasn't sent whole
abbrev pub Ends : {P H : Type 0} → PageWays P → HostWays H → End → ℕ → P → H → P → H → Type 0
Ends page host (end.Unheard why) silent s h t k = page.unheard s why t × (k ≡ h)
Ends page host end.NotALine silent s h t k =
    (line : List ℕ) × HearsAlone page s h line t k × (¬ (HasNoLf line))
Ends page host end.TooLong silent s h t k =
    (line : List ℕ) × HearsAlone page s h line t k × (max_message < length line)
Ends page host (end.Unanswered silence) silent s h t k =
    (line : List ℕ) × page.hears s (said.Text line) t × IsLine line × host.fails h line silence k
Ends page host end.NoText silent s h t k =
    (line answer : List ℕ) × IsAnswered page host s h line answer t k × (¬ (IsUtf8 answer))
Ends {P} page host (end.Unsent why) silent s h t k =
    (line answer : List ℕ) × (between : P) × IsAnswered page host s h line answer between k ×
    page.unsent between answer why t
Ends {P} page host (end.Unpinged why) silent s h t k =
    (between : P) × page.hears s said.Nothing between × page.unpinged between why t × (k ≡ h)
Ends page host end.Silent silent s h t k =
    page.hears s said.Nothing t × (k ≡ h) × (silent + 1 ≡ max_silences)
Ends page host end.TurnBound silent s h t k = ⊥

-- the same after all that was heard; the bound of rounds leaves nothing more
abbrev pub Stops : {P H : Type 0} → PageWays P → HostWays H → End → List Heard → P → H → P → H
    → Type 0
Stops page host end.TurnBound heard s h t k = (length heard ≡ max_rounds) × (t ≡ s) × (k ≡ h)
Stops page host end heard s h t k = Ends page host end (silences heard) s h t k

-- a bridge, and its end
abbrev pub BridgesUntil : {P H : Type 0} → PageWays P → HostWays H → End → P → H → P → H → Type 0
BridgesUntil {P} {H} page host end s h t k =
    (heard : List Heard) × (u : P) × (j : H) × Bridges page host s h heard u j ×
    (silences heard < max_silences) × Stops page host end heard u j t k

-- one more step, with so many silences in a row after it, or the end
abbrev pub Exchanges : {P H : Type 0} → PageWays P → HostWays H → Result ℕ End → ℕ → P → H → P → H
    → Type 0
Exchanges page host (Ok count) silent s h t k =
    (heard : Heard) × Goes page host s h heard t k × (count ≡ silences_after silent heard) ×
    (count < max_silences)
Exchanges page host (Err end) silent s h t k = Ends page host end silent s h t k

-- a text is a line, which the host answered by a text that was sent; or it is none, and wasn't handed
-- over; or the host didn't answer it, or the answer wasn't sent whole
abbrev pub IsCarried : {P H : Type 0} → PageWays P → HostWays H → Result (Unit {0}) End → List ℕ
    → P → H → P → H → Type 0
IsCarried page host (Ok done) line s h t k =
    (answer : List ℕ) × IsLine line × host.answers h line answer k × page.sends s answer t
IsCarried page host (Err end.NotALine) line s h t k = (¬ (HasNoLf line)) × (t ≡ s) × (k ≡ h)
IsCarried page host (Err end.TooLong) line s h t k =
    (max_message < length line) × (t ≡ s) × (k ≡ h)
IsCarried page host (Err (end.Unanswered silence)) line s h t k =
    IsLine line × host.fails h line silence k × (t ≡ s)
IsCarried page host (Err end.NoText) line s h t k =
    (answer : List ℕ) × IsLine line × host.answers h line answer k × (¬ (IsUtf8 answer)) × (t ≡ s)
IsCarried page host (Err (end.Unsent why)) line s h t k =
    (answer : List ℕ) × IsLine line × host.answers h line answer k × page.unsent s answer why t
IsCarried page host (Err (end.Unheard why)) line s h t k = ⊥
IsCarried page host (Err (end.Unpinged why)) line s h t k = ⊥
IsCarried page host (Err end.Silent) line s h t k = ⊥
IsCarried page host (Err end.TurnBound) line s h t k = ⊥

-- an answer was sent to the page as a text; or it isn't UTF-8, or wasn't sent
abbrev pub IsSentOn : {P : Type 0} → PageWays P → Result (Unit {0}) End → List ℕ → P → P → Type 0
IsSentOn page (Ok done) answer s t = page.sends s answer t
IsSentOn page (Err end.NoText) answer s t = (¬ (IsUtf8 answer)) × (t ≡ s)
IsSentOn page (Err (end.Unsent why)) answer s t = page.unsent s answer why t
IsSentOn page (Err end.NotALine) answer s t = ⊥
IsSentOn page (Err end.TooLong) answer s t = ⊥
IsSentOn page (Err (end.Unanswered silence)) answer s t = ⊥
IsSentOn page (Err (end.Unheard why)) answer s t = ⊥
IsSentOn page (Err (end.Unpinged why)) answer s t = ⊥
IsSentOn page (Err end.Silent) answer s t = ⊥
IsSentOn page (Err end.TurnBound) answer s t = ⊥

-- a page that was silent was sent a ping; or it was silent too often; or the ping wasn't sent
abbrev pub IsWaitedOn : {P : Type 0} → PageWays P → Result ℕ End → ℕ → P → P → Type 0
IsWaitedOn page (Ok count) silent s t =
    page.pings s t × (count ≡ silent + 1) × (count < max_silences)
IsWaitedOn page (Err (end.Unpinged why)) silent s t = page.unpinged s why t
IsWaitedOn page (Err end.Silent) silent s t = (t ≡ s) × (silent + 1 ≡ max_silences)
IsWaitedOn page (Err (end.Unheard why)) silent s t = ⊥
IsWaitedOn page (Err end.NotALine) silent s t = ⊥
IsWaitedOn page (Err end.TooLong) silent s t = ⊥
IsWaitedOn page (Err (end.Unanswered silence)) silent s t = ⊥
IsWaitedOn page (Err end.NoText) silent s t = ⊥
IsWaitedOn page (Err (end.Unsent why)) silent s t = ⊥
IsWaitedOn page (Err end.TurnBound) silent s t = ⊥
