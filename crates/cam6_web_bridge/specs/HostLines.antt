-- A host at the other end of two streams of lines. It may be unknown what is read and written there.
use Rattle.std.specs.Prelude.{◌≡◌, ℕ, List, Option, IfSome, Result, Ok, Err}
use Rattle.std.specs.Io.KnownBytes.{Appends, Consumes, Keeps}
use Rattle.cam6_web_bridge.specs.Lines.{HasNoLf}
use Rattle.cam6_writing.specs.Front.{WritesSome}
use Rattle.cam6_web_bridge.specs.Hosts.{HostWays}
use Rattle.cam6_web_bridge.specs.Lines.{sent_line}
use Rattle.cam6_web_bridge.specs.declared.hosts.Silence.{Silence}
use Rattle.cam6_web_bridge.specs.declared.hosts.Silence.TheVariants as silence

-- all that it was told, and all that it has still to say
pub record Lines : Type 0 where
  pub told : Option (List ℕ)
  pub left : Option (List ℕ)

-- the next line that it says is this
pub record Takes (left : Option (List ℕ)) (answer : List ℕ) (new : Option (List ℕ)) : Type 0 where
  pub one_line : HasNoLf answer
  pub taken : Consumes left new (sent_line answer)

-- a part of what it says was read; if it ended, that is all that it says, and has no LF
abbrev pub Misses : Option (List ℕ) → Silence → Option (List ℕ) → Type 0
Misses left silence.Unwritten new = ⊥
Misses left silence.Unread new = (part : List ℕ) × Consumes left new part
Misses left silence.Ended new =
    (part : List ℕ) × HasNoLf part × Consumes left new part × IfSome left (λ all. all ≡ part)
Misses left silence.NoMemory new = ⊥

-- it was told a line with its LF, or a part of it, or nothing
abbrev pub Hands : Result (Unit {0}) Silence → Option (List ℕ) → List ℕ → Option (List ℕ) → Type 0
Hands (Ok done) told line new = Appends told new (sent_line line)
Hands (Err silence.Unwritten) told line new = WritesSome told new (sent_line line)
Hands (Err silence.Unread) told line new = ⊥
Hands (Err silence.Ended) told line new = ⊥
Hands (Err silence.NoMemory) told line new = Keeps told new

-- it was told a line, and the next line that it said is the answer
pub record AnswersLine (old : Lines) (line answer : List ℕ) (new : Lines) : Type 0 where
  pub told : Appends old.told new.told (sent_line line)
  pub said : Takes old.left answer new.left

-- it gave no answer: it was told a part of the line, and nothing was read; or the whole line, and its
-- answer wasn't read whole; or nothing
abbrev pub FailsLine : Lines → List ℕ → Silence → Lines → Type 0
FailsLine old line silence.Unwritten new =
    WritesSome old.told new.told (sent_line line) × (new.left ≡ old.left)
FailsLine old line silence.Unread new =
    Appends old.told new.told (sent_line line) × Misses old.left silence.Unread new.left
FailsLine old line silence.Ended new =
    Appends old.told new.told (sent_line line) × Misses old.left silence.Ended new.left
FailsLine old line silence.NoMemory new = Keeps old.told new.told × (new.left ≡ old.left)

abbrev pub by_lines : HostWays Lines
by_lines = record { answers = AnswersLine; fails = FailsLine }
