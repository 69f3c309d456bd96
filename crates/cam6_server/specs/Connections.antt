-- What is written to a connection for what is read of it.
use Rattle.std.specs.Prelude.{◌≡◌, ◌≢◌, ◌⊎◌, ℕ, List, [], ◌∷◌, ◌++◌, Option, Some, IfSome}
use Rattle.std.specs.Prelude.{Result, Ok, Err, true, false}
use Rattle.cam6_handoff.specs.Standing.{Stance, IsDeskOf}
use Rattle.cam6_model.specs.Machine.{Machine}
use Rattle.cam6_session.specs.Answers.{by_machine}
use Rattle.cam6_session.specs.Desks.{machine_at}
use Rattle.cam6_session.specs.Reading.{IsLongLoad}
use Rattle.cam6_session.specs.Responding.{TakesMemory}
use Rattle.cam6_session.specs.Sessions.{AnswersReader}
use Rattle.cam6_session.specs.declared.sessions.End.{End}
use Rattle.cam6_session.specs.declared.sessions.End.TheVariants.{EndOfInput, ReadFault, TurnBound}
use Rattle.cam6_session.specs.declared.sessions.End.TheVariants.{WriteFault, NoMemory}
use Rattle.cam6_wire.specs.Commands.{IsSaid}
use Rattle.cam6_wire.specs.OneLine.{HasNoLf}
use Rattle.cam6_wire.specs.Replies.{fault_bytes}
use Rattle.cam6_wire.specs.Seats.{seat, seating_bytes}
use Rattle.cam6_wire.specs.declared.faults.LineFault.{LineFault}
use Rattle.cam6_wire.specs.declared.faults.LineFault.TheVariants.{TooLong}
use Rattle.cam6_wire.specs.declared.seats.Seating.{Seating}
use Rattle.cam6_wire.specs.declared.seats.Seating.TheVariants.{Seated}
use Rattle.cam6_server.specs.declared.connections.Visit.{Visit}
use Rattle.cam6_server.specs.declared.connections.Visit.TheVariants.{Silent, Refused, Unheard, Served}

-- the first line of these bytes, up to its LF or to their end, and what is unread after it
abbrev pub IsFirst : List ℕ → List ℕ → List ℕ → Type 0
IsFirst all line unread =
    HasNoLf line
    × ((all ≡ line ++ 10 ∷ unread) ⊎ ((line ≢ []) × (all ≡ line) × (unread ≡ [])))

-- the refusal of a first line, with its LF: its fault, or why the client doesn't get a seat
abbrev pub IsRefusal : List ℕ → List ℕ → Type 0
IsRefusal line answer =
    ((fault : LineFault) × (seat line ≡ Err fault) × (answer ≡ fault_bytes fault ++ 10 ∷ []))
    ⊎ ((user : ℕ) × (seating : Seating) × (seat line ≡ Ok user) × (seating ≢ Seated)
    × (answer ≡ seating_bytes seating ++ 10 ∷ []))

-- the line which reports that the client has its seat
abbrev pub seated_line : List ℕ
seated_line = seating_bytes Seated ++ 10 ∷ []

-- these bytes were written, or a prefix of them
abbrev pub WritesFrontOf : List ℕ → List ℕ → Option (List ℕ) → Type 0
WritesFrontOf answer out new =
    (front rest : List ℕ) × (answer ≡ front ++ rest) × (new ≡ Some (out ++ front))

-- a refusal was written; or a prefix of it, as it can't be written whole
abbrev pub Refuses : Visit → List ℕ → List ℕ → Option (List ℕ) → Type 0
Refuses (Silent end) answer out new = ⊥
Refuses Refused answer out new = new ≡ Some (out ++ answer)
Refuses Unheard answer out new = WritesFrontOf answer out new
Refuses (Served end) answer out new = ⊥

-- the same for a writer with known bytes
abbrev pub AnswersOnly : Visit → List ℕ → Option (List ℕ) → Option (List ℕ) → Type 0
AnswersOnly visit answer old new = IfSome old (λ out. Refuses visit answer out new)

-- the first line is refused
abbrev pub IsRefused : Visit → List ℕ → List ℕ → Option (List ℕ) → Type 0
IsRefused visit all out new =
    (line unread answer : List ℕ) × IsFirst all line unread × IsRefusal line answer
    × Refuses visit answer out new

-- what the first line of a reader's bytes says; those after it are unread, unless it is too long
abbrev pub FirstSays : Result ℕ LineFault → Option (List ℕ) → Option (List ℕ) → Type 0
FirstSays said read remaining =
    IfSome read (λ all. (line unread : List ℕ) × IsFirst all line unread
    × ((remaining ≡ Some unread) ⊎ (seat line ≡ Err TooLong)) × IsSaid said (seat line))

-- a part of a line was read, and its LF wasn't
abbrev pub IsCutShort : List ℕ → Option (List ℕ) → Type 0
IsCutShort all remaining =
    (part unread : List ℕ) × HasNoLf part × (all ≡ part ++ unread) × (remaining ≡ Some unread)

-- the first line begins as a load and is longer than any other line may be
abbrev pub BeginsLongLoad : List ℕ → Type 0
BeginsLongLoad all = (line unread : List ℕ) × IsFirst all line unread × IsLongLoad line

-- why no first line is answered: the input has none; a read failed within it, or the reads ran out;
-- or an allocation failed, for reading any line, for this one, or for the rest of a long load
abbrev pub IsSilent : End → List ℕ → Option (List ℕ) → Type 0
IsSilent EndOfInput all remaining = all ≡ []
IsSilent ReadFault all remaining = IsCutShort all remaining
IsSilent TurnBound all remaining = IsCutShort all remaining
IsSilent WriteFault all remaining = ⊥
IsSilent (NoMemory true) all remaining = ⊥
IsSilent (NoMemory false) all remaining =
    (remaining ≡ Some all)
    ⊎ ((line unread : List ℕ) × IsFirst all line unread × (remaining ≡ Some unread)
    × TakesMemory line)
    ⊎ (IsCutShort all remaining × BeginsLongLoad all)

-- the same for a reader with known bytes
abbrev pub StaysSilent : End → Option (List ℕ) → Option (List ℕ) → Type 0
StaysSilent end read remaining = IfSome read (λ all. IsSilent end all remaining)

-- what a line says, unless an allocation fails
abbrev pub Tells : Result (Result ℕ LineFault) End → List ℕ → Type 0
Tells (Ok said) line = IsSaid said (seat line)
Tells (Err end) line = (end ≡ NoMemory false) × TakesMemory line

-- what the first line says, or why none is answered
abbrev pub ReadsFirst : Result (Result ℕ LineFault) End → Option (List ℕ) → Option (List ℕ)
    → Type 0
ReadsFirst (Ok said) read remaining = FirstSays said read remaining
ReadsFirst (Err end) read remaining = StaysSilent end read remaining

-- the seated line is written, and the lines read then are answered as by a machine, m before them
-- and n after them; or the seated line can't be written whole, and the machine is what it was
abbrev pub Sits : Visit → List ℕ → Option (List ℕ) → List ℕ → Option (List ℕ) → Machine → Machine
    → Type 0
Sits (Silent end) unread remaining out new m n = ⊥
Sits Refused unread remaining out new m n = ⊥
Sits Unheard unread remaining out new m n = WritesFrontOf seated_line out new × (n ≡ m)
Sits (Served end) unread remaining out new m n =
    AnswersReader by_machine end (Some unread) remaining (Some (out ++ seated_line)) new m n

abbrev pub SitsDown : Visit → Option (List ℕ) → Option (List ℕ) → Option (List ℕ)
    → Option (List ℕ) → Machine → Machine → Type 0
SitsDown visit read remaining old new m n =
    IfSome read (λ unread. IfSome old (λ out. Sits visit unread remaining out new m n))

-- the same at a user's desk, which is that user's in the end, too
abbrev pub SitsDownAt : ℕ → Stance → Visit → Option (List ℕ) → Option (List ℕ) → Option (List ℕ)
    → Option (List ℕ) → Type 0
SitsDownAt user d visit read remaining old new =
    (e : Stance) × IsDeskOf user e
    × SitsDown visit read remaining old new (machine_at d) (machine_at e)

-- the first line asks for a user's seat and gets it: the machine is the one at which a desk of that
-- user stands, before and after
abbrev pub IsSeated : Visit → List ℕ → Option (List ℕ) → List ℕ → Option (List ℕ) → Type 0
IsSeated visit all remaining out new =
    (line unread : List ℕ) × (user : ℕ) × IsFirst all line unread × (seat line ≡ Ok user)
    × ((d e : Stance) × IsDeskOf user d × IsDeskOf user e
    × Sits visit unread remaining out new (machine_at d) (machine_at e))

-- by how it went: nothing was written; or the first line's refusal; or a prefix of that or of the
-- seated line; or the client has its seat
abbrev pub Went : Visit → List ℕ → Option (List ℕ) → List ℕ → Option (List ℕ) → Type 0
Went (Silent end) all remaining out new = (new ≡ Some out) × IsSilent end all remaining
Went Refused all remaining out new = IsRefused Refused all out new
Went Unheard all remaining out new =
    IsRefused Unheard all out new ⊎ IsSeated Unheard all remaining out new
Went (Served end) all remaining out new = IsSeated (Served end) all remaining out new

-- the same for a reader and a writer with known bytes, before and after
abbrev pub Converses : Visit → Option (List ℕ) → Option (List ℕ) → Option (List ℕ)
    → Option (List ℕ) → Type 0
Converses visit read remaining old new =
    IfSome read (λ all. IfSome old (λ out. Went visit all remaining out new))
