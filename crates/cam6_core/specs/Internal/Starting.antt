-- The users of a new core.
use Rattle.std.specs.Prelude.{ℕ, ◌≡◌, List, Some, length}
use Rattle.std.specs.List.{slice_get}
use Rattle.cam6_planes.specs.declared.sides.Side.{Side}
use Rattle.cam6_machine.specs.Stored.{machine_of}
use Rattle.cam6_model.specs.Machine.{blank}
use Rattle.cam6_core.specs.declared.parts.Whereabouts.{Whereabouts}
use Rattle.cam6_core.specs.declared.parts.Whereabouts.TheVariants.{Resting}

-- at rest, with a blank machine of this limit
abbrev pub IsNewcomer : Side → Whereabouts → Type 0
IsNewcomer limit (Resting r) = machine_of r ≡ blank limit
IsNewcomer limit x = ⊥

-- the first n limits have one each
pub record AreNewcomersTo (n : ℕ) (limits : List Side) (users : List Whereabouts) : Type 0 where
  pub long : length users ≡ n
  pub each : (i : ℕ) (limit : Side) (x : Whereabouts) → slice_get limits i ≡ Some limit →
      slice_get users i ≡ Some x → IsNewcomer limit x

abbrev pub AreNewcomers : List Side → List Whereabouts → Type 0
AreNewcomers limits users = AreNewcomersTo (length limits) limits users
