-- How many bands are left of a command.
use Rattle.std.specs.Prelude.{ℕ, ◌==◌, ◌-◌, ◌*◌, ◌/◌, ◌%◌, Option, Some, None, if◌then◌else◌}
use Rattle.cam6_planes.specs.Side.{side_number}
use Rattle.cam6_planes.specs.declared.sides.Side.{Side}
use Rattle.cam6_band.specs.Limits.{band}
use Rattle.cam6_cycle.specs.declared.tables.Direction.{Direction}
use Rattle.cam6_commands.specs.declared.commands.Command.{Command}
use Rattle.cam6_model.specs.Alone.{work_of}
use Rattle.cam6_model.specs.Machine.{Machine}
use Rattle.cam6_slot.specs.Works.{StoredWork}
use Rattle.cam6_slot.specs.Parking.{StoredQueued, rows_parked}
use Rattle.cam6_slot.specs.Leases.{StoredLease}

-- the bands of one step at a side
abbrev pub bands_of_step : Side → ℕ
bands_of_step side = side_number side / band

-- the bands of steps, if there are any
abbrev pub bands_in : Side → Option (ℕ × Direction) → ℕ
bands_in side None = 0
bands_in side (Some steps) = steps.0 * bands_of_step side

-- the bands of a command on a machine; none if it does no step
abbrev pub bands_of : Machine → Command → ℕ
bands_of m c = bands_in m.side (work_of m c)

-- the bands that are left after so many rows of a step: those of the steps that are still to be
-- done, but for the rows
abbrev pub left_of : StoredWork → ℕ → ℕ
left_of w rows = (w.total - w.reached.steps) * bands_of_step w.home.side - rows / band

-- the bands that would be left if all that isn't at home were lost
abbrev pub home_of : StoredWork → ℕ
home_of w = (w.total - w.base.steps) * bands_of_step w.home.side

abbrev pub queued_left : StoredQueued → ℕ
queued_left q = left_of q.work (rows_parked q.parked)

abbrev pub queued_home : StoredQueued → ℕ
queued_home q = home_of q.work

abbrev pub lease_left : StoredLease → ℕ
lease_left l = left_of l.work l.rows

abbrev pub lease_home : StoredLease → ℕ
lease_home l = home_of l.work

-- the bands of a step of a lease
abbrev pub bands_of_lease : StoredLease → ℕ
bands_of_lease l = bands_of_step l.work.home.side

-- the bands left from home once the command is taken off its board, if steps have `bands` bands,
-- `left` were left, and `home` from home; after a whole step all that is done is at home
abbrev pub home_after : ℕ → ℕ → ℕ → ℕ
home_after bands left home = if left % bands == 0 then left else home
