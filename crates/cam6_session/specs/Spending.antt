-- Reads take bytes of a reader. Its bytes may be unknown.
use Rattle.std.specs.Prelude.{◌≡◌, ◌≤◌, ◌+◌, ℕ, List, length, Option, IfSome, ⊤}
use Rattle.cam6_session.specs.declared.lines.Line.{Line}
use Rattle.cam6_session.specs.declared.lines.Line.TheVariants as line
use Rattle.cam6_session.specs.declared.sessions.End.{End}
use Rattle.cam6_session.specs.declared.sessions.End.TheVariants.{TurnBound}

-- as many bytes were taken of the reader as there were reads until so many reads were left, or more
abbrev pub TookAsMany : ℕ → ℕ → Option (List ℕ) → Option (List ℕ) → Type 0
TookAsMany before after read remaining =
    IfSome read (λ all. IfSome remaining (λ unread. before + length unread ≤ after + length all))

-- each read took a byte at least, if the bound is met or a line was ended
abbrev pub TakesAByteEach : Line → ℕ → ℕ → Option (List ℕ) → Option (List ℕ) → Type 0
TakesAByteEach line.Ended before after read remaining = TookAsMany before after read remaining
TakesAByteEach line.Last before after read remaining = ⊤
TakesAByteEach line.EndOfInput before after read remaining = ⊤
TakesAByteEach line.ReadFault before after read remaining = ⊤
TakesAByteEach line.TurnBound before after read remaining = TookAsMany before after read remaining
TakesAByteEach line.NoMemory before after read remaining = ⊤

-- serving runs out of reads only if at least as many bytes were taken of the reader as reads
abbrev pub SpendsItsReads : End → ℕ → Option (List ℕ) → Option (List ℕ) → Type 0
SpendsItsReads end reads_left read remaining =
    end ≡ TurnBound →
    IfSome read (λ all. IfSome remaining (λ unread. reads_left + length unread ≤ length all))
