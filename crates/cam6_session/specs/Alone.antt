-- How a session with a private machine ends, from a blank machine on.
use Rattle.std.specs.Prelude.{ℕ, List, Option}
use Rattle.cam6_planes.specs.declared.sides.Side.{Side}
use Rattle.cam6_model.specs.Machine.{Machine, blank}
use Rattle.cam6_session.specs.Answers.{by_machine}
use Rattle.cam6_session.specs.Sessions.{AnswersReader}
use Rattle.cam6_session.specs.declared.sessions.End.{End}

-- the session ends as one over a blank machine of this limit does, at some machine
abbrev pub AnswersReaderAlone : Side → End → Option (List ℕ) → Option (List ℕ)
    → Option (List ℕ) → Option (List ℕ) → Type 0
AnswersReaderAlone limit end read remaining old new =
    (n : Machine) × AnswersReader by_machine end read remaining old new (blank limit) n
