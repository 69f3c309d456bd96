-- Laws of a machine that comes apart.
use Rattle.std.specs.Prelude.{◌≡◌, ◌≤◌, ℕ}
use Rattle.cam6_planes.specs.Stored.{Stored}
use Rattle.cam6_planes.specs.Side.{side_number}
use Rattle.cam6_planes.specs.Cells.{cells}
use Rattle.cam6_model.specs.Always.{IsMachine}
use Rattle.cam6_machine.specs.Stored.{StoredMachine, StoredKept, machine_of, machine_over, IsKept}

-- what is joined of a machine's parts, with other planes and another position, is the machine that
-- it was but for its side, its cells and the position
abbrev pub JoinsWhatWasParted : Type 0
JoinsWhatWasParted =
    (stored : StoredMachine) (planes : Stored) (position : ℕ) →
    machine_over planes (record stored.kept { position = position })
    ≡ record (machine_of stored) {
      side = planes.side;
      planes = cells planes;
      position = position;
    }

-- over planes of a side within its limit, what a machine keeps is a machine
abbrev pub KeptIsMachine : Type 0
KeptIsMachine =
    (kept : StoredKept) (planes : Stored) → IsKept kept →
    side_number planes.side ≤ side_number kept.limit → IsMachine (machine_over planes kept)
