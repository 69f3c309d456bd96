-- What the program does with lines of events.
use Rattle.std.specs.Prelude.{◌≡◌, ◌⊎◌, ℕ, List, [], Option, false, replicate}
use Rattle.cam6_planes.specs.declared.sides.Side.{Side}
use Rattle.cam6_core.specs.Fresh.{fresh}
use Rattle.cam6_core.specs.Good.{Good}
use Rattle.cam6_core.specs.State.{State}
use Rattle.cam6_session.specs.Events.{by_core}
use Rattle.cam6_session.specs.Replays.{WritesOutcomes}
use Rattle.cam6_session.specs.Sessions.{AnswersReader}
use Rattle.cam6_session.specs.declared.sessions.End.{End}
use Rattle.cam6_session.specs.declared.sessions.End.TheVariants.{NoMemory}
use Rattle.cam6_cli.specs.Sharing.{Shared}

-- a new core: each user has this limit, and the cache is empty and may have so many tables
abbrev pub IsNew : Shared → Side → State → Type 0
IsNew sharing limit s =
    Good s (fresh (replicate sharing.users limit) sharing.boards)
    × (s.cache ≡ record { tables = []; capacity = sharing.cache })

-- a new core couldn't be allocated, and nothing was read or written
abbrev pub BeginsNothing : End → Option (List ℕ) → Option (List ℕ) → Option (List ℕ)
    → Option (List ℕ) → Type 0
BeginsNothing end read remaining old new =
    (end ≡ NoMemory false) × (remaining ≡ read) × (new ≡ old)

-- a new core answers the reader's lines, or there is no core and nothing was read or written
abbrev pub AnswersReaderShared : Shared → Side → End → Option (List ℕ) → Option (List ℕ)
    → Option (List ℕ) → Option (List ℕ) → Type 0
AnswersReaderShared sharing limit end read remaining old new =
    ((s t : State) × IsNew sharing limit s ×
    AnswersReader by_core end read remaining old new s t)
    ⊎ BeginsNothing end read remaining old new

-- the outcomes of the lines' events on a new core were written, or a prefix of them, and give each
-- user the replies of their private machine; or there is no core and nothing was read or written
abbrev pub WritesOutcomesShared : Shared → Side → End → Option (List ℕ) → Option (List ℕ)
    → Option (List ℕ) → Option (List ℕ) → Type 0
WritesOutcomesShared sharing limit end read remaining old new =
    ((s t : State) × IsNew sharing limit s × WritesOutcomes end read old new s t)
    ⊎ BeginsNothing end read remaining old new
