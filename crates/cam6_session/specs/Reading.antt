-- What reading a line takes from a reader, and what it keeps. The reader's bytes may be unknown.
use Rattle.std.specs.Prelude.{◌≡◌, ◌≢◌, ◌<◌, ◌⊎◌, ℕ, List, [], ◌∷◌, ◌++◌, length, true}
use Rattle.std.specs.Prelude.{Option, Some, IfSome}
use Rattle.std.specs.Io.KnownBytes.{Consumes, IsAtEnd}
use Rattle.cam6_wire.specs.Limits.{max_line, begins_load}
use Rattle.cam6_wire.specs.OneLine.{HasNoLf}
use Rattle.cam6_session.specs.Held.{Held, Holds, Grows}
use Rattle.cam6_session.specs.declared.lines.Part.{Part}
use Rattle.cam6_session.specs.declared.lines.Part.TheVariants.{More, Newline, AtEnd, Fault}
use Rattle.cam6_session.specs.declared.lines.Part.TheVariants as look
use Rattle.cam6_session.specs.declared.lines.Extent.{Extent}
use Rattle.cam6_session.specs.declared.lines.Extent.TheVariants.{ToItsEnd, UntilTooLong}
use Rattle.cam6_session.specs.declared.lines.Line.{Line}
use Rattle.cam6_session.specs.declared.lines.Line.TheVariants.{Ended, Last, EndOfInput}
use Rattle.cam6_session.specs.declared.lines.Line.TheVariants.{ReadFault, TurnBound, NoMemory}

-- a line that begins as a load and is longer than any other line may be
pub record IsLongLoad (line : List ℕ) : Type 0 where
  pub begins : begins_load line ≡ true
  pub long : max_line < length line

-- these bytes begin with such a line, or with a prefix of it that is one
abbrev pub BeginLongLoad : List ℕ → Type 0
BeginLongLoad all =
    (line rest : List ℕ) × (all ≡ line ++ rest) × HasNoLf line × IsLongLoad line

-- a line that is kept becomes one by the bytes that come
abbrev pub BecomesLong : Held → List ℕ → Type 0
BecomesLong held all =
    (part rest : List ℕ) × (all ≡ part ++ rest) × HasNoLf part ×
    ((line : List ℕ) → Holds held line → IsLongLoad (line ++ part))

-- what a look takes after its part of the line
abbrev pub ending : Part → List ℕ
ending More = []
ending Newline = 10 ∷ []
ending AtEnd = []
ending Fault = []
ending look.NoMemory = []

-- one look at the reader took this part of a line
pub record TakesPart (result : Part) (old new : Option (List ℕ)) (held kept : Held) : Type 0 where
  pub part : List ℕ
  pub free : HasNoLf part
  pub grows : Grows held kept part
  pub taken : Consumes old new (part ++ ending result)
  pub more : result ≡ More → 0 < length part
  pub at_end : result ≡ AtEnd → (part ≡ []) × IsAtEnd old
  pub wanted : result ≡ look.NoMemory → (part ≡ []) × IfSome old (BecomesLong held)

-- of these bytes a line was taken, or a part of one, and those are unread
abbrev pub ReadsLine : Line → List ℕ → List ℕ → Held → Type 0
ReadsLine Ended all unread held =
    (line : List ℕ) × HasNoLf line × (all ≡ line ++ 10 ∷ unread) × Holds held line
ReadsLine Last all unread held =
    (line : List ℕ) × HasNoLf line × (line ≢ []) × (all ≡ line) × (unread ≡ []) × Holds held line
ReadsLine EndOfInput all unread held = (all ≡ []) × (unread ≡ [])
ReadsLine ReadFault all unread held = (part : List ℕ) × HasNoLf part × (all ≡ part ++ unread)
ReadsLine TurnBound all unread held = (part : List ℕ) × HasNoLf part × (all ≡ part ++ unread)
ReadsLine NoMemory all unread held =
    (part : List ℕ) × HasNoLf part × (all ≡ part ++ unread) × BeginLongLoad all

-- the same if the reader's bytes are known; then those that are unread are known too
abbrev pub Reads : Line → Option (List ℕ) → Option (List ℕ) → Held → Type 0
Reads result old new held =
    IfSome old (λ all. (unread : List ℕ) × (new ≡ Some unread) × ReadsLine result all unread held)

-- so much of a line was taken that it is too long, however it goes on, and its rest is unread
abbrev pub Exceeds : Line → List ℕ → List ℕ → Held → Type 0
Exceeds result all unread held =
    (part : List ℕ) × (result ≡ Ended) × HasNoLf part × (all ≡ part ++ unread)
    × (held.is_long ≡ true) × Holds held part

-- of these bytes a line was taken, or a part of one, or enough of one that is too long
abbrev pub ReadsWithin : Line → Option (List ℕ) → Option (List ℕ) → Held → Type 0
ReadsWithin result old new held =
    IfSome old (λ all. (unread : List ℕ) × (new ≡ Some unread)
    × (ReadsLine result all unread held ⊎ Exceeds result all unread held))

-- the same by how far a line is read
abbrev pub ReadsTo : Extent → Line → Option (List ℕ) → Option (List ℕ) → Held → Type 0
ReadsTo ToItsEnd result old new held = Reads result old new held
ReadsTo UntilTooLong result old new held = ReadsWithin result old new held

-- a line takes one read or more, and the bound is met if none is left
abbrev pub CountsReads : Line → ℕ → ℕ → Type 0
CountsReads Ended old new = new < old
CountsReads Last old new = new < old
CountsReads EndOfInput old new = new < old
CountsReads ReadFault old new = new < old
CountsReads TurnBound old new = new ≡ 0
CountsReads NoMemory old new = new < old
