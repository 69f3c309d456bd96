-- What a core answers to lines of events.
use Rattle.std.specs.Prelude.{◌≡◌, ℕ, List, [], ◌∷◌, ◌++◌, Result, Ok, Err, true}
use Rattle.cam6_commands.specs.declared.events.Event.{Event}
use Rattle.cam6_commands.specs.declared.outcomes.Outcome.{Outcome}
use Rattle.cam6_core.specs.State.{State}
use Rattle.cam6_core.specs.Goes.{Goes, LoadsTables, Spares}
use Rattle.cam6_core.specs.Runs.{accepted}
use Rattle.cam6_wire.specs.declared.faults.LineFault.{LineFault}
use Rattle.cam6_wire.specs.Events.{event}
use Rattle.cam6_wire.specs.Outcomes.{outcome_bytes}
use Rattle.cam6_wire.specs.Replies.{fault_bytes}
use Rattle.cam6_session.specs.Answering.{Answering}
use Rattle.cam6_session.specs.Answers.{among, texts_by}

-- what a line says may be answered by this text from s on, and then the core is at t: an event goes
-- by `Goes`, `LoadsTables` and `Spares`, and its outcome has this text; a fault has its own, and
-- leaves the core
abbrev pub IsTold : State → Result Event LineFault → List ℕ → State → Type 0
IsTold s (Ok e) text t =
    (r : Outcome) × Goes s e r t × LoadsTables e r s t × Spares e s t
    × (text ≡ outcome_bytes r ++ 10 ∷ [])
IsTold s (Err fault) text t = (text ≡ fault_bytes fault ++ 10 ∷ []) × (t ≡ s)

-- what a line says is an event that is done: it isn't refused, and doesn't run out of memory
abbrev pub IsDone : State → Result Event LineFault → State → Type 0
IsDone s (Ok e) t = (r : Outcome) × Goes s e r t × (accepted r ≡ true)
IsDone s (Err fault) t = ⊥

-- the core answers what a line says, and does the event that it says
abbrev pub by_core : Answering State
by_core = record {
  answers = λ s line text t. IsTold s (event line) text t;
  does = λ s line t. IsDone s (event line) t;
}

-- the events among what lines say
abbrev pub events : List (Result Event LineFault) → List Event
events = among

-- the outcome of each event, and the fault of each line that says none
abbrev pub outcome_texts : List (Result Event LineFault) → List Outcome → List ℕ
outcome_texts = texts_by outcome_bytes
