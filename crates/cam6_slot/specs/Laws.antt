-- What follows of places.
use Rattle.std.specs.Prelude.{ℕ, ◌≡◌, ◌<◌, List, [], slice_index_or}
use Rattle.cam6_commands.specs.declared.commands.Command.{Command}
use Rattle.cam6_model.specs.Machine.{Machine}
use Rattle.cam6_board.specs.Jobs.{StoredJob}
use Rattle.cam6_slot.specs.Works.{StoredWork}
use Rattle.cam6_slot.specs.Parking.{StoredQueued}
use Rattle.cam6_slot.specs.Leases.{StoredLease, TablesFit}
use Rattle.cam6_slot.specs.Stands.{Stands, StandsOut}
use Rattle.cam6_slot.specs.Needs.{needs_of, IsTableNeeded}

-- tables that are those needed, index by index, fit the steps
abbrev pub NeededTablesFit : Type 0
NeededTablesFit =
    (w : StoredWork) (tables : List (List ℕ)) →
    ((index : ℕ) → index < needs_of w → IsTableNeeded w index (slice_index_or tables index [])) →
    TablesFit w tables

-- a place has the side of the machine for which it stands
abbrev pub PlacesHaveTheSide : Type 0
PlacesHaveTheSide =
    (m : Machine) (c : Command) →
    ((q : StoredQueued) → Stands q m c → q.work.home.side ≡ m.side)
    × ((l : StoredLease) (job : StoredJob) → StandsOut l job m c → l.work.home.side ≡ m.side)
