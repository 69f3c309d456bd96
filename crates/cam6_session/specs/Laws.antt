-- The laws of the lines of a text, and of their answers.
use Rattle.std.specs.Prelude.{◌≡◌, ◌≢◌, ◌↔◌, List, ℕ, [], ◌∷◌, ◌++◌, map, All}
use Rattle.cam6_model.specs.Machine.{Machine}
use Rattle.cam6_model.specs.Alone.{replies, after_all}
use Rattle.cam6_commands.specs.declared.outcomes.Outcome.{Outcome}
use Rattle.cam6_core.specs.State.{State}
use Rattle.cam6_core.specs.Runs.{GoThrough}
use Rattle.cam6_wire.specs.Commands.{command}
use Rattle.cam6_wire.specs.Events.{event}
use Rattle.cam6_wire.specs.OneLine.{HasNoLf}
use Rattle.cam6_session.specs.Lines.{lines, ended_lines, joined}
use Rattle.cam6_session.specs.Answering.{Answering, AreAnswered}
use Rattle.cam6_session.specs.Answers.{by_machine, commands, texts_of}
use Rattle.cam6_session.specs.Events.{by_core, events, outcome_texts}

-- a text has the lines that it was joined from; what is after them is one more if it isn't empty
abbrev pub LinesAreFound : Type 0
LinesAreFound =
    (done : List (List ℕ)) → All HasNoLf done →
    (lines (joined done) ≡ done) ×
    ((last : List ℕ) → HasNoLf last →
    (ended_lines (joined done ++ last) ≡ done) ×
    (last ≢ [] → lines (joined done ++ last) ≡ done ++ last ∷ []))

-- a machine's answers to lines are a private machine's replies to the commands among them, and the
-- faults of the others, in the order of the lines
abbrev pub AnswersAreReplies : Type 0
AnswersAreReplies =
    (m n : Machine) (taken : List (List ℕ)) (written : List ℕ) →
    AreAnswered by_machine m taken written n
    ↔ ((written ≡ texts_of (map command taken) (replies m (commands (map command taken))))
    × (n ≡ after_all m (commands (map command taken))))

-- a core's answers to lines are the outcomes of the events among them, one after another, and the
-- faults of the others, in the order of the lines
abbrev pub AnswersAreOutcomes : Type 0
AnswersAreOutcomes =
    (s t : State) (taken : List (List ℕ)) (written : List ℕ) →
    AreAnswered by_core s taken written t
    ↔ ((rs : List Outcome) × GoThrough s (events (map event taken)) rs t
    × (written ≡ outcome_texts (map event taken) rs))

-- lines are answered from where the lines before them left what is asked, so a session can go on
-- where it ended
abbrev pub AnswersGoOn : {S : Type 0} → Answering S → Type 0
AnswersGoOn {S} by =
    (s t : S) (done later : List (List ℕ)) (written : List ℕ) →
    AreAnswered by s (done ++ later) written t
    ↔ ((before after : List ℕ) × (u : S) × AreAnswered by s done before u
    × AreAnswered by u later after t × (written ≡ before ++ after))
