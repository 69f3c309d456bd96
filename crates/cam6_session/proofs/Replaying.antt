-- Lines of events are answered by what comes of the events, one after another.
use Rattle.std.proofs.Common.{◌≡◌, ℕ, List, [], ◌∷◌, ◌++◌, Option, None, Some, Result, Ok, Err, refl}
use Rattle.std.proofs.Common.{sym, ap, ◌∙◌, subst, append_assoc}
use Rattle.std.specs.Prelude.{map}
use Rattle.cam6_commands.specs.declared.events.Event.{Event}
use Rattle.cam6_commands.specs.declared.outcomes.Outcome.{Outcome}
use Rattle.cam6_core.specs.State.{State}
use Rattle.cam6_core.specs.Runs.{GoThrough}
use Rattle.cam6_core.proofs.Agreement.{enough}
use Rattle.cam6_wire.specs.declared.faults.LineFault.{LineFault}
use Rattle.cam6_wire.specs.Events.{event}
use Rattle.cam6_wire.specs.Outcomes.{outcome_bytes}
use Rattle.cam6_wire.specs.Replies.{fault_bytes}
use Rattle.cam6_session.specs.Answering.{AreAnswered}
use Rattle.cam6_session.specs.Answers.{among, texts_by}
use Rattle.cam6_session.specs.Events.{IsTold, by_core, events, outcome_texts}
use Rattle.cam6_session.specs.Laws.{AnswersAreOutcomes}
use Rattle.cam6_session.specs.Lines.{lines}
use Rattle.cam6_session.specs.Replays.{IsReplayed, WritesOutcomes}
use Rattle.cam6_session.specs.Sessions.{AnswersReader}
use Rattle.cam6_session.specs.declared.sessions.End.{End}
use Rattle.cam6_session.proofs.Fronts.{has_answered}

-- what came of events, and that it was told
abbrev CameTo : State → State → List (Result Event LineFault) → List ℕ → Type 0
CameTo s t said written =
    (rs : List Outcome) × GoThrough s (among said) rs t × (written ≡ texts_by outcome_bytes said rs)

-- one line more
module _ (s u t : State) (text rest written : List ℕ) (later : List (Result Event LineFault))
    (is : written ≡ text ++ rest) (came : CameTo u t later rest) where
  came_first : (said : Result Event LineFault) → IsTold s said text u
      → CameTo s t (said ∷ later) written
  unfolding GoThrough
  came_first (Ok e) told = (
    told.0 ∷ came.0,
    (u, told.1, told.2, told.3, came.1),
    is ∙ ap (λ l. l ++ rest) told.4 ∙ append_assoc (outcome_bytes told.0) (10 ∷ []) rest
        ∙ ap (λ l. outcome_bytes told.0 ++ 10 ∷ l) came.2,
  )
  came_first (Err fault) told = (
    came.0,
    subst (λ x. GoThrough x (among later) came.0 t) told.1 came.1,
    is ∙ ap (λ l. l ++ rest) told.0 ∙ append_assoc (fault_bytes fault) (10 ∷ []) rest
        ∙ ap (λ l. fault_bytes fault ++ 10 ∷ l) came.2,
  )

-- the core answers lines in no other way
only_outcomes : (s t : State) (taken : List (List ℕ)) (written : List ℕ)
    → AreAnswered by_core s taken written t → CameTo s t (map event taken) written
unfolding GoThrough
only_outcomes s t [] written all = ([], all.1, all.0)
only_outcomes s t (line ∷ later) written all =
    came_first s all.2 t all.0 all.1 written (map event later) all.4
    (only_outcomes all.2 t later all.1 all.5) (event line) all.3

-- the answers to lines of which it is known what they say
abbrev Answers : State → List (List ℕ) → List (Result Event LineFault) → State → Type 0
Answers s taken said t =
    (rs : List Outcome) → GoThrough s (among said) rs t
    → AreAnswered by_core s taken (texts_by outcome_bytes said rs) t

-- one line more
module _ (s t : State) (line : List ℕ) (later : List (List ℕ))
    (then : (u : State) → Answers u later (map event later) t) where
  answers_first : (said : Result Event LineFault) → event line ≡ said
      → Answers s (line ∷ later) (said ∷ map event later) t
  unfolding GoThrough
  answers_first (Ok e) is [] went = absurd went
  answers_first (Ok e) is (r ∷ rs) went = (
    outcome_bytes r ++ 10 ∷ [],
    outcome_texts (map event later) rs,
    went.0,
    subst (λ x. IsTold s x (outcome_bytes r ++ 10 ∷ []) went.0) (sym is)
        (r, went.1, went.2, went.3, refl),
    sym (append_assoc (outcome_bytes r) (10 ∷ []) (outcome_texts (map event later) rs)),
    then went.0 rs went.4,
  )
  answers_first (Err fault) is rs went = (
    fault_bytes fault ++ 10 ∷ [],
    outcome_texts (map event later) rs,
    s,
    subst (λ x. IsTold s x (fault_bytes fault ++ 10 ∷ []) s) (sym is) (refl, refl),
    sym (append_assoc (fault_bytes fault) (10 ∷ []) (outcome_texts (map event later) rs)),
    then s rs went,
  )

-- and it answers them in each of these
outcomes_answer : (s t : State) (taken : List (List ℕ)) → Answers s taken (map event taken) t
unfolding GoThrough
outcomes_answer s t [] [] went = (refl, went)
outcomes_answer s t [] (r ∷ rs) went = absurd went
outcomes_answer s t (line ∷ later) rs went =
    answers_first s t line later (λ u. outcomes_answer u t later) (event line) refl rs went

pub answers_are_outcomes : AnswersAreOutcomes
answers_are_outcomes s t taken written = (
  only_outcomes s t taken written,
  λ came.
      subst (λ l. AreAnswered by_core s taken l t) (sym came.2)
      (outcomes_answer s t taken came.0 came.1),
)

-- whatever ends a replay
pub writes_outcomes : (e : End) (read remaining old new : Option (List ℕ)) (s t : State)
    → AnswersReader by_core e read remaining old new s t → WritesOutcomes e read old new s t
writes_outcomes e None remaining old new s t served = tt
writes_outcomes e (Some all) remaining None new s t served = tt
writes_outcomes e (Some all) remaining (Some out) new s t served =
    let has = has_answered by_core e s t served.0 served.1 served.2 served.6 in
    let came = only_outcomes s t has.done (served.2 ++ has.missing) has.answered in (
      served.2,
      served.5,
      record {
        taken = has.done;
        later = has.later;
        first = ap lines served.3 ∙ has.first;
        outcomes = came.0;
        went = came.1;
        missing = has.missing;
        texts = sym came.2;
      },
      (enough (events (map event has.done)) came.0 s t came.1).0,
      has.whole,
    )
