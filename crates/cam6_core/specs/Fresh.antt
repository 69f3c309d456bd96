-- A core to begin with.
use Rattle.std.specs.Prelude.{ℕ, List, map, replicate}
use Rattle.cam6_planes.specs.declared.sides.Side.{Side}
use Rattle.cam6_core.specs.Model.{Model, newcomer, idle}

-- a user for each limit, who has asked for nothing, and so many idle boards
abbrev pub fresh : List Side → ℕ → Model
fresh limits boards = record { users = map newcomer limits; boards = replicate boards idle }
