-- The headline: for every list of events (commands, leases, bands, preemptions inside a step, cache
-- evictions, board failures and repairs) and every user, the replies that the user is given are, in
-- order, those of their machine alone to their accepted commands. The machine alone evaluates rule
-- words cell by cell. So two lists that agree on a user's accepted commands give equal replies, as
-- far as both have replied.
--
-- Its premises, by name. Memory: an ask that runs out of memory changes nothing and isn't accepted.
-- Turn: an ask of a user who is waiting is refused and isn't accepted. Stop: a board fails by
-- stopping and loses all that it holds; it is never silently wrong.
use Rattle.std.specs.Prelude.{ℕ, ◌≡◌, ◌==◌, ◌&&◌, ◌⊎◌, List, [], ◌∷◌, ◌++◌, Option, Some, None}
use Rattle.std.specs.Prelude.{if◌then◌else◌, ⊤}
use Rattle.cam6_planes.specs.declared.sides.Side.{Side}
use Rattle.cam6_commands.specs.declared.commands.Command.{Command}
use Rattle.cam6_commands.specs.declared.events.Event.{Event}
use Rattle.cam6_commands.specs.declared.events.Event.TheVariants as event
use Rattle.cam6_commands.specs.declared.outcomes.Outcome.{Outcome}
use Rattle.cam6_commands.specs.declared.outcomes.Outcome.TheVariants.{Collected}
use Rattle.cam6_commands.specs.declared.replies.Reply.{Reply}
use Rattle.cam6_model.specs.Alone.{replies}
use Rattle.cam6_model.specs.Machine.{blank}
use Rattle.cam6_core.specs.State.{State, at_number}
use Rattle.cam6_core.specs.Good.{Good}
use Rattle.cam6_core.specs.Fresh.{fresh}
use Rattle.cam6_core.specs.Runs.{accepted, GoThrough}
use Rattle.cam6_core.specs.declared.parts.Whereabouts.{Whereabouts}
use Rattle.cam6_core.specs.declared.parts.Whereabouts.TheVariants.{Resting}

-- the command of an event, if it is an accepted ask of this user
abbrev pub asked_by : ℕ → Event → Outcome → List Command
asked_by u (event.Ask v c) r = if accepted r && (v == u) then c ∷ [] else []
asked_by u e r = []

-- the reply of an event, if this user collected it
abbrev pub given_to : ℕ → Event → Outcome → List Reply
given_to u (event.Collect v) (Collected x) = if v == u then x ∷ [] else []
given_to u e r = []

-- a user's accepted commands, in order
unfoldable pub commands : ℕ → List Event → List Outcome → List Command
commands u [] rs = []
commands u (e ∷ es) [] = []
commands u (e ∷ es) (r ∷ rs) = asked_by u e r ++ commands u es rs

-- the replies that a user is given, in order
unfoldable pub given : ℕ → List Event → List Outcome → List Reply
given u [] rs = []
given u (e ∷ es) [] = []
given u (e ∷ es) (r ∷ rs) = given_to u e r ++ given u es rs

-- the first list is all of the second but its last reply
abbrev pub AllButLast : List Reply → List Reply → Type 0
AllButLast xs all = (x : Reply) × (all ≡ xs ++ x ∷ [])

-- a user at rest was given all of these replies, and a waiting user all but the last
abbrev pub AreGiven : Option Whereabouts → List Reply → List Reply → Type 0
AreGiven None xs all = ⊥
AreGiven (Some (Resting r)) xs all = xs ≡ all
AreGiven (Some x) xs all = AllButLast xs all

-- each user was given the replies of a private machine of their limit to their accepted commands
abbrev pub Headline : List Side → List Event → List Outcome → State → Type 0
Headline limits es rs new =
    (u : ℕ) (limit : Side) → at_number limits u ≡ Some limit →
    AreGiven (at_number new.users u) (given u es rs) (replies (blank limit) (commands u es rs))

-- the headline, if the core was new
abbrev pub HeadlineFromNew : State → List Event → List Outcome → State → Type 0
HeadlineFromNew old es rs new =
    (limits : List Side) (boards : ℕ) → Good old (fresh limits boards) → Headline limits es rs new

-- the same replies, but one list may lack the last
abbrev pub AgreeAsFar : List Reply → List Reply → Type 0
AgreeAsFar xs ys = (xs ≡ ys) ⊎ AllButLast xs ys ⊎ AllButLast ys xs

-- the user isn't waiting
abbrev pub IsAtRest : Option Whereabouts → Type 0
IsAtRest (Some (Resting r)) = ⊤
IsAtRest x = ⊥

-- a run of events on a core that was new, and what a user of this limit got
pub record Got (u : ℕ) (limit : Side) (cs : List Command) (xs : List Reply) (x : Option Whereabouts)
    : Type 0 where
  pub limits : List Side
  pub boards : ℕ
  pub old : State
  pub events : List Event
  pub outcomes : List Outcome
  pub new : State
  pub is_new : Good old (fresh limits boards)
  pub theirs : at_number limits u ≡ Some limit
  pub run : GoThrough old events outcomes new
  pub asked : commands u events outcomes ≡ cs
  pub given_then : given u events outcomes ≡ xs
  pub stands : at_number new.users u ≡ x

-- two lists of events that agree on a user's accepted commands give this user equal replies, as far
-- as both have replied; all are equal if the user waits after neither. All else may differ: the
-- other users, the user's number, order, failures, boards and cache; the limit is the same.
abbrev pub RepliesAreOfCommands : Type 0
RepliesAreOfCommands =
    (u v : ℕ) (limit : Side) (cs : List Command) (xs ys : List Reply)
    (x y : Option Whereabouts) → Got u limit cs xs x → Got v limit cs ys y →
    AgreeAsFar xs ys × (IsAtRest x → IsAtRest y → xs ≡ ys)
