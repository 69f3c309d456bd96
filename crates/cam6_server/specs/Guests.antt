-- The clients of a host, by what they have.
use Rattle.std.specs.Prelude.{◌≡◌, ◌<◌, ◌+◌, ◌-◌, ◌&&◌, ◌==◌, ℕ, Bool, true, false, MatchBool}
use Rattle.cam6_server.specs.declared.guests.Standing.{Standing}
use Rattle.cam6_server.specs.declared.guests.Standing.TheVariants.{Waiting, Long, Seated}

-- the most waiting clients that may hold a line which is longer than any line but a load
abbrev pub max_long : ℕ
max_long = 8

-- how many clients may wait for a seat, how many wait, how many of these hold a long line, how many
-- have a seat, and whether any has ever had one
pub record Guested : Type 0 where
  pub room : ℕ
  pub waiting : ℕ
  pub long : ℕ
  pub seated : ℕ
  pub was_seated : Bool

abbrev pub nobody : ℕ → Guested
nobody room =
    record { room = room; waiting = 0; long = 0; seated = 0; was_seated = false }

-- one more client waits, or there is no room for it
abbrev pub Enters : Guested → Bool → Guested → Type 0
Enters old entered new =
    MatchBool entered
    ((old.waiting < old.room) × (new ≡ record old { waiting = old.waiting + 1 }))
    ((old.waiting ≡ old.room) × (new ≡ old))

-- one more client holds a long line, or as many do as may
abbrev pub Lengthens : Guested → Bool → Guested → Type 0
Lengthens old lengthened new =
    MatchBool lengthened
    ((old.long < max_long) × (new ≡ record old { long = old.long + 1 }))
    ((old.long ≡ max_long) × (new ≡ old))

-- a client that waited has its seat
pub record Sits (old new : Guested) : Type 0 where
  pub room : new.room ≡ old.room
  pub waiting : new.waiting ≡ old.waiting - 1
  pub long : new.long ≡ old.long
  pub seated : old.seated < 65535 → new.seated ≡ old.seated + 1
  pub was : new.was_seated ≡ true

-- a client that had this goes
abbrev pub Leaves : Standing → Guested → Guested → Type 0
Leaves Waiting old new = new ≡ record old { waiting = old.waiting - 1 }
Leaves Long old new = new ≡ record old { waiting = old.waiting - 1; long = old.long - 1 }
Leaves Seated old new = new ≡ record old { seated = old.seated - 1 }

-- no client is connected
abbrev pub are_none : Guested → Bool
are_none guests = (guests.waiting == 0) && (guests.seated == 0)
