-- The connections of a server, by what they have.
use Rattle.std.specs.Prelude.{◌≡◌, ◌<◌, ◌+◌, ◌-◌, ◌&&◌, ◌==◌, ℕ, Bool, MatchBool}
use Rattle.cam6_web.specs.declared.visitors.ClientState.{ClientState}
use Rattle.cam6_web.specs.declared.visitors.ClientState.TheVariants.{Greeted, Bridged}

-- the most connections that may wait for an answer
abbrev pub most_greeted : ℕ
most_greeted = 64

-- how many sockets may be open, how many connections wait for an answer, and how many are sockets
pub record Visiting : Type 0 where
  pub room : ℕ
  pub greeted : ℕ
  pub bridged : ℕ

abbrev pub nobody : ℕ → Visiting
nobody room = record { room = room; greeted = 0; bridged = 0 }

-- one more connection waits, or as many do as may
abbrev pub Enters : Visiting → Bool → Visiting → Type 0
Enters old entered new =
    MatchBool entered
    ((old.greeted < most_greeted) × (new ≡ record old { greeted = old.greeted + 1 }))
    ((old.greeted ≡ most_greeted) × (new ≡ old))

-- a connection that waited is a socket, or there is no room for one
abbrev pub Opens : Visiting → Bool → Visiting → Type 0
Opens old opened new =
    MatchBool opened
    ((old.bridged < old.room)
    × (new ≡ record old { greeted = old.greeted - 1; bridged = old.bridged + 1 }))
    ((old.bridged ≡ old.room) × (new ≡ old))

-- a connection that had this goes
abbrev pub Leaves : ClientState → Visiting → Visiting → Type 0
Leaves Greeted old new = new ≡ record old { greeted = old.greeted - 1 }
Leaves Bridged old new = new ≡ record old { bridged = old.bridged - 1 }

-- there is no connection
abbrev pub are_none : Visiting → Bool
are_none visiting = (visiting.greeted == 0) && (visiting.bridged == 0)
