-- What a core holds: where each user's command is, what each board holds, and the tables that are
-- cached. Users are numbered from 1, and boards from 0.
use Rattle.std.specs.Prelude.{ℕ, zero, suc, ◌≡◌, ◌<◌, ◌≤◌, List, Option, Some, None}
use Rattle.std.specs.Prelude.{slice_set, ⊤}
use Rattle.std.specs.List.{slice_get}
use Rattle.cam6_cache.specs.Cached.{Cached}
use Rattle.cam6_station.specs.Held.{Manned, idle, loaded, dead}
use Rattle.cam6_core.specs.declared.parts.Whereabouts.{Whereabouts}

pub record State : Type 0 where
  pub users : List Whereabouts
  pub boards : List Manned
  pub cache : Cached

abbrev pub state : List Whereabouts → List Manned → Cached → State
state users boards cache = record { users = users; boards = boards; cache = cache }

-- what stands at a number, the first at 1
abbrev pub at_number : {A : Type 0} → List A → ℕ → Option A
at_number xs zero = None
at_number xs (suc i) = slice_get xs i

-- the same list with something else there
abbrev pub with_number : {A : Type 0} → List A → ℕ → A → List A
with_number xs zero x = xs
with_number xs (suc i) x = slice_set xs i x

abbrev pub with_user : State → ℕ → Whereabouts → State
with_user s u x = record s { users = with_number s.users u x }

abbrev pub with_board : State → ℕ → Manned → State
with_board s b y = record s { boards = slice_set s.boards b y }

-- the number of one of n users
abbrev pub IsNumber : ℕ → ℕ → Type 0
IsNumber n u = (0 < u) × (u ≤ n)

-- a board is loaded for one of so many users
abbrev pub IsHeldWithin : ℕ → Manned → Type 0
IsHeldWithin n idle = ⊤
IsHeldWithin n (loaded u h) = IsNumber n u
IsHeldWithin n dead = ⊤

abbrev pub AreHeldWithin : ℕ → List Manned → Type 0
AreHeldWithin n boards =
    (b : ℕ) (y : Manned) → slice_get boards b ≡ Some y → IsHeldWithin n y

-- the board of a number, or a dead one if there is no such board
abbrev pub or_dead : Option Manned → Manned
or_dead None = dead
or_dead (Some y) = y

abbrev pub board_of : State → ℕ → Manned
board_of s b = or_dead (slice_get s.boards b)
