-- How serving ends: which lines were taken, what was written, and at which t what is asked stands
-- then; it stood at s.
use Rattle.std.specs.Prelude.{◌≡◌, ℕ, List, [], ◌∷◌, ◌++◌, Option, Some, IfSome, ◌⊎◌, true, false}
use Rattle.cam6_session.specs.Lines.{lines, ended_lines}
use Rattle.cam6_session.specs.Answering.{Answering, AreAnswered}
use Rattle.cam6_session.specs.Reading.{IsLongLoad}
use Rattle.cam6_session.specs.Responding.{TakesMemory}
use Rattle.cam6_session.specs.declared.sessions.End.{End}
use Rattle.cam6_session.specs.declared.sessions.End.TheVariants.{EndOfInput, ReadFault, TurnBound}
use Rattle.cam6_session.specs.declared.sessions.End.TheVariants.{WriteFault, NoMemory}

-- whole lines were taken, the last of them the one at which serving stops; the others are unread
pub record StopsAt (taken unread : List ℕ) : Type 0 where
  pub done : List (List ℕ)
  pub line : List ℕ
  pub are : lines taken ≡ done ++ line ∷ []
  pub whole : lines (taken ++ unread) ≡ lines taken ++ lines unread

-- no LF of the next line was taken, and it begins as a load and is longer than any other may be
pub record StopsWithin (taken unread : List ℕ) : Type 0 where
  pub line : List ℕ
  pub later : List (List ℕ)
  pub are : lines (taken ++ unread) ≡ ended_lines taken ++ line ∷ later
  pub long : IsLongLoad line

-- the lines before it were answered, and a prefix of its answer was written; what it says is done
abbrev pub StopsWriting : {S : Type 0} → Answering S → S → List ℕ → List ℕ → List ℕ → S → Type 0
StopsWriting {S} by s taken unread written t =
    (stop : StopsAt taken unread) × (before front rest : List ℕ) × (u : S) ×
    AreAnswered by s stop.done before u × by.answers u stop.line (front ++ rest) t ×
    (written ≡ before ++ front)

-- the lines before it were answered, and what it says is done
abbrev pub StopsDone : {S : Type 0} → Answering S → S → List ℕ → List ℕ → List ℕ → S → Type 0
StopsDone {S} by s taken unread written t =
    (stop : StopsAt taken unread) × (text : List ℕ) × (u : S) ×
    AreAnswered by s stop.done written u × by.answers u stop.line text t ×
    by.does u stop.line t

-- no line was taken; or the lines before it were answered, and memory is taken for it, but what it
-- says isn't done; or the lines before one that takes room were answered
abbrev pub StopsUndone : {S : Type 0} → Answering S → S → List ℕ → List ℕ → List ℕ → S → Type 0
StopsUndone by s taken unread written t =
    ((taken ≡ []) × AreAnswered by s [] written t) ⊎
    ((stop : StopsAt taken unread) × AreAnswered by s stop.done written t × TakesMemory stop.line) ⊎
    (StopsWithin taken unread × AreAnswered by s (ended_lines taken) written t)

-- for each end, by the bytes taken, those that are unread, and those written
abbrev pub AnswersUntil : {S : Type 0} → Answering S → End → S → List ℕ → List ℕ → List ℕ → S
    → Type 0
AnswersUntil by EndOfInput s taken unread written t =
    (unread ≡ []) × AreAnswered by s (lines taken) written t
AnswersUntil by ReadFault s taken unread written t = AreAnswered by s (ended_lines taken) written t
AnswersUntil by TurnBound s taken unread written t = AreAnswered by s (ended_lines taken) written t
AnswersUntil by WriteFault s taken unread written t = StopsWriting by s taken unread written t
AnswersUntil by (NoMemory true) s taken unread written t = StopsDone by s taken unread written t
AnswersUntil by (NoMemory false) s taken unread written t = StopsUndone by s taken unread written t

-- the same for a reader and a writer with known bytes, before and after
abbrev pub AnswersReader : {S : Type 0} → Answering S → End → Option (List ℕ) → Option (List ℕ)
    → Option (List ℕ) → Option (List ℕ) → S → S → Type 0
AnswersReader by end read remaining old new s t =
    IfSome read (λ all. IfSome old (λ out.
    (taken unread written : List ℕ) × (all ≡ taken ++ unread) × (remaining ≡ Some unread) ×
    (new ≡ Some (out ++ written)) × AnswersUntil by end s taken unread written t))
