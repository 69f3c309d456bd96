-- What a replay writes for what it reads.
use Rattle.std.specs.Prelude.{◌≡◌, ℕ, List, [], ◌++◌, Option, Some, IfSome, map}
use Rattle.cam6_commands.specs.declared.outcomes.Outcome.{Outcome}
use Rattle.cam6_core.specs.State.{State}
use Rattle.cam6_core.specs.Runs.{GoThrough}
use Rattle.cam6_core.specs.Headline.{HeadlineFromNew}
use Rattle.cam6_wire.specs.Events.{event}
use Rattle.cam6_session.specs.Events.{events, outcome_texts}
use Rattle.cam6_session.specs.Lines.{lines}
use Rattle.cam6_session.specs.declared.sessions.End.{End}
use Rattle.cam6_session.specs.declared.sessions.End.TheVariants.{EndOfInput}

-- the first lines of a text were taken, and their events went one after another, from s to t; for
-- each of these lines, in order, the text of its outcome or fault was written, or a prefix of them
pub record IsReplayed (all written : List ℕ) (s t : State) : Type 0 where
  pub taken : List (List ℕ)
  pub later : List (List ℕ)
  pub first : lines all ≡ taken ++ later
  pub outcomes : List Outcome
  pub went : GoThrough s (events (map event taken)) outcomes t
  pub missing : List ℕ
  pub texts : outcome_texts (map event taken) outcomes ≡ written ++ missing

-- so it is with the input's lines, and if the core was new each user was given the replies of their
-- private machine; all lines were taken and all texts written if the input's end was met
abbrev pub WritesOutcomes :
    End → Option (List ℕ) → Option (List ℕ) → Option (List ℕ) → State → State → Type 0
WritesOutcomes end read old new s t =
    IfSome read (λ all. IfSome old (λ out.
    (written : List ℕ) × (new ≡ Some (out ++ written)) × (is : IsReplayed all written s t) ×
    HeadlineFromNew s (events (map event is.taken)) is.outcomes t ×
    (end ≡ EndOfInput → (is.later ≡ []) × (is.missing ≡ []))))
