-- What a station holds, by its post and by what its board holds.
use Rattle.std.specs.Prelude.{◌≡◌, ⊤}
use Rattle.cam6_board.specs.Held.{Load, empty, loaded as holds}
use Rattle.cam6_station.specs.declared.stations.Post.{Post}
use Rattle.cam6_station.specs.declared.stations.Post.TheVariants.{Idle, Loaded, Dead}
use Rattle.cam6_station.specs.Held.{Manned, idle, loaded, dead, HeldFits}

abbrev pub manned : Post → Load → Manned
manned Idle load = idle
manned Dead load = dead
manned (Loaded u lease) empty = dead
manned (Loaded u lease) (holds job tables) =
    loaded u (record { lease = lease; job = job; tables = tables })

-- a board holds the job of the lease, which fits, or nothing
abbrev pub IsManned : Post → Load → Type 0
IsManned Idle load = load ≡ empty
IsManned Dead load = load ≡ empty
IsManned (Loaded u lease) empty = ⊥
IsManned (Loaded u lease) (holds job tables) =
    HeldFits (record { lease = lease; job = job; tables = tables })

-- there is a lease
abbrev pub HasLease : Post → Type 0
HasLease (Loaded u lease) = ⊤
HasLease post = ⊥
