-- What a seat and its board have of each other.
use Rattle.std.specs.Prelude.{⊤}
use Rattle.cam6_commands.specs.declared.commands.Command.{Command}
use Rattle.cam6_handoff.specs.Holding.{Holding, nothing, holding}
use Rattle.cam6_model.specs.Machine.{Machine}
use Rattle.cam6_slot.specs.Stands.{Stands}
use Rattle.cam6_station.specs.Held.{Manned, idle, loaded, dead, StandsHeld}

-- a board holds nothing if its seat holds nothing, and else what stands for whatever the place stood
-- for that the seat took
abbrev pub Serves : Holding → Manned → Type 0
Serves nothing idle = ⊤
Serves nothing dead = ⊤
Serves nothing (loaded w h) = ⊥
Serves (holding u v) (loaded w h) = (m : Machine) (c : Command) → Stands v m c → StandsHeld h m c
Serves (holding u v) idle = ⊥
Serves (holding u v) dead = ⊥
