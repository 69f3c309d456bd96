-- The planes of an image that is held, which is away only in the midst of a run, and a machine by all
-- that it stores.
use Rattle.std.specs.Prelude.{ℕ, List, [], Option, Some, None}
use Rattle.cam6_planes.specs.Stored.{Stored}
use Rattle.cam6_planes.specs.declared.sides.Side.{Side}
use Rattle.cam6_planes.specs.declared.sides.Side.TheVariants.{S128}
use Rattle.cam6_band.specs.declared.images.AtRest.{AtRest}
use Rattle.cam6_cycle.specs.declared.entries.Entry.{Entry}
use Rattle.cam6_model.specs.Machine.{Machine}
use Rattle.cam6_model.specs.Rules.{Rule}
use Rattle.cam6_machine.specs.Stored.{StoredKept, machine_over}

abbrev pub planes_of : Option AtRest → Stored
planes_of None = record { side = S128; limit = S128; rows = [] }
planes_of (Some image) = image.planes

abbrev pub kept_as : Side → List Rule → List Entry → ℕ → List ℕ → StoredKept
kept_as limit rules cycle position colours = record {
  limit = limit;
  rules = rules;
  cycle = cycle;
  position = position;
  colours = colours;
}

abbrev pub stored_as : Stored → Side → List Rule → List Entry → ℕ → List ℕ → Machine
stored_as planes limit rules cycle position colours =
    machine_over planes (kept_as limit rules cycle position colours)
