-- What a station holds: a board, and the lease of a user whose job the board holds.
use Rattle.std.specs.Prelude.{ℕ, ◌<◌, Bool, true, false, List, Option, Some, None, ⊤}
use Rattle.cam6_board.specs.Images.{rows_of}
use Rattle.cam6_board.specs.Jobs.{StoredJob}
use Rattle.cam6_commands.specs.declared.commands.Command.{Command}
use Rattle.cam6_model.specs.Machine.{Machine}
use Rattle.cam6_slot.specs.Leases.{StoredLease, IsLease, JobFits, TablesFit}
use Rattle.cam6_slot.specs.Lefts.{lease_left, lease_home, bands_of_lease}
use Rattle.cam6_slot.specs.Stands.{StandsOut}

-- a lease, the board's job, and the tables by which the job goes
pub record Held : Type 0 where
  pub lease : StoredLease
  pub job : StoredJob
  pub tables : List (List ℕ)

-- nothing; what is held of a user's command; or nothing any more, as the board has failed
pub data Manned : Type 0 where
  idle : Manned
  loaded : ℕ → Held → Manned
  dead : Manned

-- what a station is at, and how often its board failed
pub record Stationed : Type 0 where
  pub at : Manned
  pub faults : ℕ

-- a lease of which bands are left, and the job and the tables fit it
pub record HeldFits (h : Held) : Type 0 where
  pub lease : IsLease h.lease
  pub job : JobFits h.lease h.job
  pub left : 0 < lease_left h.lease
  pub tables : TablesFit h.lease.work h.tables

-- what is held fits, if something is
abbrev pub IsFit : Manned → Type 0
IsFit (loaded u h) = HeldFits h
IsFit s = ⊤

abbrev pub held_left : Held → ℕ
held_left h = lease_left h.lease

abbrev pub held_home : Held → ℕ
held_home h = lease_home h.lease

-- the bands of a step
abbrev pub held_bands : Held → ℕ
held_bands h = bands_of_lease h.lease

-- it stands for a machine and a command
abbrev pub StandsHeld : Held → Machine → Command → Type 0
StandsHeld h m c = StandsOut h.lease h.job m c

abbrev pub IsLoaded : Manned → Type 0
IsLoaded (loaded u h) = ⊤
IsLoaded s = ⊥

abbrev pub IsAlive : Manned → Type 0
IsAlive dead = ⊥
IsAlive s = ⊤

abbrev pub is_idle : Manned → Bool
is_idle idle = true
is_idle s = false

abbrev pub is_loaded : Manned → Bool
is_loaded (loaded u h) = true
is_loaded s = false

abbrev pub is_dead : Manned → Bool
is_dead dead = true
is_dead s = false

-- the lease of the command that is held, if one is
abbrev pub lease_on : Manned → Option StoredLease
lease_on (loaded u h) = Some h.lease
lease_on s = None

-- the rows of the step under way that are done, if a command is held
abbrev pub rows_on : Manned → Option ℕ
rows_on (loaded u h) = Some (rows_of h.job.image)
rows_on s = None
