-- When a core agrees with the model.
use Rattle.std.specs.Prelude.{ℕ, ◌≡◌, List, Some, length, ⊤}
use Rattle.std.specs.List.{slice_get}
use Rattle.cam6_cache.specs.Cached.{AreTrue}
use Rattle.cam6_model.specs.Machine.{Machine}
use Rattle.cam6_machine.specs.Stored as stored
use Rattle.cam6_slot.specs.Finished.{IsDone}
use Rattle.cam6_slot.specs.Lefts.{queued_left, queued_home}
use Rattle.cam6_slot.specs.Parking.{IsQueued}
use Rattle.cam6_slot.specs.Stands.{Stands}
use Rattle.cam6_station.specs.Held.{Manned, Held, HeldFits, StandsHeld, held_left, held_home}
use Rattle.cam6_station.specs.Held as board
use Rattle.cam6_core.specs.State.{State, at_number}
use Rattle.cam6_core.specs.Model.{Stage, resting, queued, out, finished}
use Rattle.cam6_core.specs.Model.{Seat, idle, loaded, dead, User, Model, user, seat, machine_of}
use Rattle.cam6_core.specs.declared.parts.Whereabouts.{Whereabouts}
use Rattle.cam6_core.specs.declared.parts.Whereabouts.TheVariants as whereabouts

-- a user's whereabouts fit a stage, if m is the user's private machine: at rest the machine is m;
-- what is queued stands for m and the command, has as many bands left and from home, and is
-- `IsQueued`; what is finished is done with m and the command
abbrev pub UserFits : Machine → Whereabouts → Stage → Type 0
UserFits m (whereabouts.Resting r) resting = stored.machine_of r ≡ m
UserFits m (whereabouts.Queued q) (queued c left home) =
    Stands q m c × (left ≡ queued_left q) × (home ≡ queued_home q) × IsQueued q
UserFits m whereabouts.Out (out b c) = ⊤
UserFits m (whereabouts.Finished f) (finished c) = IsDone f m c
UserFits m x stage = ⊥

-- the user is out on this board, and what it holds stands for the user's machine and command: a
-- lease of this board, with a job and tables that fit it
abbrev pub IsOutWith : Machine → ℕ → Held → Stage → Type 0
IsOutWith m b h (out d c) =
    (d ≡ b) × StandsHeld h m c × HeldFits h × (h.lease.board ≡ b)
IsOutWith m b h stage = ⊥

-- a board is idle or dead, or it holds what its user is out with, and as many bands are left
abbrev pub BoardFits : List User → ℕ → Manned → Seat → Type 0
BoardFits us b board.idle idle = ⊤
BoardFits us b board.dead dead = ⊤
BoardFits us b (board.loaded u h) (loaded v left home) =
    (v ≡ u) × (left ≡ held_left h) × (home ≡ held_home h)
    × IsOutWith (machine_of (user us u)) b h (user us u).stage
BoardFits us b y s = ⊥

-- a board is loaded for this user
abbrev pub IsLoadedFor : ℕ → Seat → Type 0
IsLoadedFor u (loaded v left home) = v ≡ u
IsLoadedFor u s = ⊥

-- if a user is out on a board, the board is loaded for this user
abbrev pub IsOnHisBoard : List Seat → ℕ → Stage → Type 0
IsOnHisBoard bs u (out b c) = IsLoadedFor u (seat bs b)
IsOnHisBoard bs u stage = ⊤

-- as many users and as many boards, each as the model has it; each user who is out has a board; and
-- each cached table is its key's true one
pub record Good (s : State) (a : Model) : Type 0 where
  pub users_long : length s.users ≡ length a.users
  pub boards_long : length s.boards ≡ length a.boards
  pub users : (u : ℕ) (x : Whereabouts) → at_number s.users u ≡ Some x →
      UserFits (machine_of (user a.users u)) x (user a.users u).stage
  pub boards : (b : ℕ) (y : Manned) → slice_get s.boards b ≡ Some y →
      BoardFits a.users b y (seat a.boards b)
  pub out : (u : ℕ) → IsOnHisBoard a.boards u (user a.users u).stage
  pub tables : AreTrue s.cache.tables
