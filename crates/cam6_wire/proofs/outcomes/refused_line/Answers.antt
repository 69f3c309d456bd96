use Rattle.std.proofs.Common.{ℕ, List, ◌++◌, [], ◌∷◌, ap, sym}
use Rattle.serde_json.proofs.OnLiterals.{serde_json_on_literals}
use Rattle.std.specs.Fmt.{digits}
use Rattle.cam6_commands.specs.declared.outcomes.Outcome.TheVariants.{Refused as refused}
use Rattle.cam6_commands.specs.declared.refused.Refused.{Refused}
use Rattle.cam6_wire.specs.Outcomes.{outcome_bytes}
use Rattle.cam6_wire.proofs.outcomes.refused_line.Goals as goal

-- the line of a reason
abbrev line_of : Refused → List ℕ
line_of reason = outcome_bytes (refused reason) ++ 10 ∷ []

pub returns-in-NoSuchNumber : goal.returns-in-NoSuchNumber
unfolding serde_json_on_literals outcome_bytes digits
returns-in-NoSuchNumber c = sym (ap line_of c.in-NoSuchNumber.is)

pub returns-in-UserIsWaiting : goal.returns-in-UserIsWaiting
unfolding serde_json_on_literals outcome_bytes digits
returns-in-UserIsWaiting c = sym (ap line_of c.in-UserIsWaiting.is)

pub returns-in-UserIsNotQueued : goal.returns-in-UserIsNotQueued
unfolding serde_json_on_literals outcome_bytes digits
returns-in-UserIsNotQueued c = sym (ap line_of c.in-UserIsNotQueued.is)

pub returns-in-BoardIsNotIdle : goal.returns-in-BoardIsNotIdle
unfolding serde_json_on_literals outcome_bytes digits
returns-in-BoardIsNotIdle c = sym (ap line_of c.in-BoardIsNotIdle.is)

pub returns-in-BoardHoldsNothing : goal.returns-in-BoardHoldsNothing
unfolding serde_json_on_literals outcome_bytes digits
returns-in-BoardHoldsNothing c = sym (ap line_of c.in-BoardHoldsNothing.is)

pub returns-in-BoardIsDead : goal.returns-in-BoardIsDead
unfolding serde_json_on_literals outcome_bytes digits
returns-in-BoardIsDead c = sym (ap line_of c.in-BoardIsDead.is)

pub returns-in-BoardIsNotDead : goal.returns-in-BoardIsNotDead
unfolding serde_json_on_literals outcome_bytes digits
returns-in-BoardIsNotDead c = sym (ap line_of c.in-BoardIsNotDead.is)

pub returns-in-NothingIsFinished : goal.returns-in-NothingIsFinished
unfolding serde_json_on_literals outcome_bytes digits
returns-in-NothingIsFinished c = sym (ap line_of c.in-NothingIsFinished.is)

pub returns-in-NoTableIsCached : goal.returns-in-NoTableIsCached
unfolding serde_json_on_literals outcome_bytes digits
returns-in-NoTableIsCached c = sym (ap line_of c.in-NoTableIsCached.is)
