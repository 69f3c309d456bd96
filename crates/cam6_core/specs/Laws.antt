-- Laws of runs of events.
use Rattle.std.specs.Prelude.{List}
use Rattle.cam6_commands.specs.declared.events.Event.{Event}
use Rattle.cam6_commands.specs.declared.outcomes.Outcome.{Outcome}
use Rattle.cam6_core.specs.State.{State}
use Rattle.cam6_core.specs.Runs.{Counts, GoThrough}
use Rattle.cam6_core.specs.Headline.{HeadlineFromNew}

-- events that go one after another, however they are given, have the headline, and their outcomes
-- are the model's
abbrev pub GoingThroughIsEnough : Type 0
GoingThroughIsEnough =
    (es : List Event) (rs : List Outcome) (old new : State) → GoThrough old es rs new →
    HeadlineFromNew old es rs new × Counts old es rs new
