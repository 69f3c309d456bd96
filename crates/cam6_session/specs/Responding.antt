-- What answering one line does to what is asked, and to a writer. Its bytes may be unknown.
use Rattle.std.specs.Prelude.{◌≡◌, ◌≢◌, ◌≤◌, ℕ, List, [], ◌∷◌, ◌++◌, length, Option, Result}
use Rattle.std.specs.Prelude.{Ok, Err}
use Rattle.std.specs.Prelude.{true, false}
use Rattle.std.specs.Io.KnownBytes.{Appends, Keeps}
use Rattle.cam6_wire.specs.Limits.{limit_of}
use Rattle.cam6_wire.specs.Replies.{fault_bytes}
use Rattle.cam6_wire.specs.declared.faults.LineFault.{LineFault}
use Rattle.cam6_wire.specs.declared.faults.LineFault.TheVariants as fault
use Rattle.cam6_session.specs.Answering.{Answering}
use Rattle.cam6_writing.specs.Front.{WritesSome}
use Rattle.cam6_session.specs.declared.sessions.End.{End}
use Rattle.cam6_session.specs.declared.sessions.End.TheVariants as end
use Rattle.cam6_session.specs.declared.sessions.Stop.{Stop}
use Rattle.cam6_session.specs.declared.sessions.Stop.TheVariants as stop

-- a text was written as a line and serving goes on, or the writer failed after a prefix of it
abbrev pub Tells : Result (Unit {0}) Stop → List ℕ → Option (List ℕ) → Option (List ℕ) → Type 0
Tells (Ok done) text old new = Appends old new (text ++ 10 ∷ [])
Tells (Err stop.WriteFault) text old new = WritesSome old new (text ++ 10 ∷ [])
Tells (Err (stop.NoMemory done)) text old new = ⊥

-- the same, or an allocation failed for the line, and nothing was written
abbrev pub TellsText : Result (Unit {0}) Stop → List ℕ → Option (List ℕ) → Option (List ℕ)
    → Type 0
TellsText (Err (stop.NoMemory true)) text old new = Keeps old new
TellsText result text old new = Tells result text old new

-- a line's fault was written; for the fault `NoMemory` nothing was, and serving stops
abbrev pub TellsFault : Result (Unit {0}) Stop → LineFault → Option (List ℕ) → Option (List ℕ)
    → Type 0
TellsFault result fault.NoMemory old new =
    (result ≡ Err (stop.NoMemory false)) × Keeps old new
TellsFault result f old new = Tells result (fault_bytes f) old new

-- memory is taken for a line that is neither empty nor too long
abbrev pub TakesMemory : List ℕ → Type 0
TakesMemory line = (line ≢ []) × (length line ≤ limit_of line)

-- how serving ends if it stops so
abbrev pub end_at : Stop → End
end_at stop.WriteFault = end.WriteFault
end_at (stop.NoMemory done) = end.NoMemory done

-- a line's answer was written and serving goes on, or it stops so: a prefix of the answer was
-- written; or what the line says is done, and nothing was written; or neither
abbrev pub Responds : {S : Type 0} → Answering S → Result (Unit {0}) Stop → List ℕ
    → Option (List ℕ) → Option (List ℕ) → S → S → Type 0
Responds by (Ok done) line old new s t =
    (text : List ℕ) × by.answers s line text t × Appends old new text
Responds by (Err stop.WriteFault) line old new s t =
    (text : List ℕ) × by.answers s line text t × WritesSome old new text
Responds by (Err (stop.NoMemory true)) line old new s t =
    (text : List ℕ) × by.answers s line text t × by.does s line t × Keeps old new
Responds by (Err (stop.NoMemory false)) line old new s t =
    Keeps old new × (t ≡ s) × TakesMemory line
