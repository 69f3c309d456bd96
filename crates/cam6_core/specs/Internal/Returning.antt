-- Whose command comes off a board.
use Rattle.std.specs.Prelude.{ℕ, ◌≡◌, Option, Some, None, ⊤}
use Rattle.cam6_board.specs.Jobs.{StoredJob}
use Rattle.cam6_slot.specs.Leases.{StoredLease}
use Rattle.cam6_slot.specs.Parking.{StoredQueued}
use Rattle.cam6_station.specs.Held.{Manned, HeldFits, loaded}
use Rattle.cam6_station.specs.declared.stations.Banded.{Banded}
use Rattle.cam6_station.specs.declared.stations.Banded.TheVariants.{More, Last, Lost}
use Rattle.cam6_core.specs.State.{IsNumber}

-- a board is loaded for a user with this lease and this job, which fit
abbrev pub IsLoadedWith : Manned → ℕ → StoredLease → StoredJob → Type 0
IsLoadedWith (loaded v h) u lease job =
    (v ≡ u) × (h.lease ≡ lease) × (h.job ≡ job) × HeldFits h
IsLoadedWith y u lease job = ⊥

-- a finished command is that of one of n users
abbrev pub IsOfUser : ℕ → Banded → Type 0
IsOfUser n (More left) = ⊤
IsOfUser n (Last u f) = IsNumber n u
IsOfUser n (Lost u q) = IsNumber n u

-- a command that comes back, if one does, is that of one of n users
abbrev pub IsOfUserIf : ℕ → Option (ℕ × StoredQueued) → Type 0
IsOfUserIf n None = ⊤
IsOfUserIf n (Some back) = IsNumber n back.0
