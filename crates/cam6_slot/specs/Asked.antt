-- What comes of a command that a user gives to a machine.
use Rattle.std.specs.Prelude.{◌≡◌, ◌<◌, ℕ, ⊤}
use Rattle.cam6_commands.specs.declared.commands.Command.{Command}
use Rattle.cam6_model.specs.Machine.{Machine}
use Rattle.cam6_machine.specs.Stored.{StoredMachine}
use Rattle.cam6_slot.specs.declared.resting.Asked.{Asked}
use Rattle.cam6_slot.specs.declared.resting.Asked.TheVariants as asked
use Rattle.cam6_slot.specs.Works.{machine_at_home, command_in}
use Rattle.cam6_slot.specs.Stands.{Stands}
use Rattle.cam6_slot.specs.Finished.{IsDone}
use Rattle.cam6_slot.specs.Lefts.{queued_left, queued_home}

-- it is done, or it waits for a board and stands for the machine and the command
abbrev pub StandsFor : Machine → Command → Asked → Type 0
StandsFor m c (asked.Finished f) = IsDone f m c
StandsFor m c (asked.Queued q) = Stands q m c
StandsFor m c (asked.NoMemory r) = ⊤

-- it is done at once if it has no bands; if it has some, it waits with all of them
abbrev pub HasLeft : ℕ → Asked → Type 0
HasLeft bands (asked.Finished f) = bands ≡ 0
HasLeft bands (asked.Queued q) = (queued_left q ≡ bands) × (0 < bands)
HasLeft bands (asked.NoMemory r) = ⊤

-- as many are left from home
abbrev pub HasHome : ℕ → Asked → Type 0
HasHome bands (asked.Finished f) = ⊤
HasHome bands (asked.Queued q) = queued_home q ≡ bands
HasHome bands (asked.NoMemory r) = ⊤

-- a command that begins to wait has the machine and itself in its steps
abbrev pub Opens : Machine → Command → Asked → Type 0
Opens m c (asked.Finished f) = ⊤
Opens m c (asked.Queued q) = (machine_at_home q.work ≡ m) × (command_in q.work ≡ c)
Opens m c (asked.NoMemory r) = ⊤

-- if an allocation failed, the machine comes back as it was
abbrev pub IsBack : StoredMachine → Asked → Type 0
IsBack machine (asked.Finished f) = ⊤
IsBack machine (asked.Queued q) = ⊤
IsBack machine (asked.NoMemory r) = r ≡ machine

-- no allocation failed
abbrev pub HadMemory : Asked → Type 0
HadMemory (asked.Finished f) = ⊤
HadMemory (asked.Queued q) = ⊤
HadMemory (asked.NoMemory r) = ⊥
