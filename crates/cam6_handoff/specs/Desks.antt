-- What the calls of a desk give, by where it stands before and after.
use Rattle.std.specs.Prelude.{◌≡◌, ◌<◌, ℕ, Option, Some, None, false}
use Rattle.cam6_commands.specs.declared.commands.Command.{Command}
use Rattle.cam6_commands.specs.declared.replies.Reply.{Reply}
use Rattle.cam6_machine.specs.Stored.{machine_of}
use Rattle.cam6_model.specs.Alone.{reply, after}
use Rattle.cam6_model.specs.Machine.{Machine, blank}
use Rattle.cam6_model.specs.Memory.{may_want_memory}
use Rattle.cam6_planes.specs.declared.sides.Side.{Side}
use Rattle.cam6_slot.specs.Lefts.{bands_of, queued_left, queued_home}
use Rattle.cam6_handoff.specs.Rule.{asked_machine, asked_command}
use Rattle.cam6_handoff.specs.Standing.{Stance, standing, waiting, nowhere}
use Rattle.cam6_handoff.specs.declared.desks.Put.{Put}
use Rattle.cam6_handoff.specs.declared.desks.Put.TheVariants.{Answered, Waiting}

-- the user's desk stands at this machine
abbrev pub StandsAt : ℕ → Machine → Stance → Type 0
StandsAt u m (standing v s) = (v ≡ u) × (machine_of s ≡ m)
StandsAt u m (waiting v asked) = ⊥
StandsAt u m nowhere = ⊥

-- it waits for what this command makes of this machine; all of the command's bands are left, and all
-- of them from home
abbrev pub WaitsFor : ℕ → Machine → Command → Stance → Type 0
WaitsFor u m c (waiting v asked) =
    (v ≡ u) × (asked_machine asked ≡ m) × (asked_command asked ≡ c)
    × (queued_left asked ≡ bands_of m c) × (queued_home asked ≡ bands_of m c)
WaitsFor u m c (standing v s) = ⊥
WaitsFor u m c nowhere = ⊥

-- a command without bands is answered as by a private machine; for any other the desk waits
abbrev pub PutOn : ℕ → Machine → Command → Put → Stance → Type 0
PutOn u m c (Answered r) new = (bands_of m c ≡ 0) × (r ≡ reply m c) × StandsAt u (after m c) new
PutOn u m c Waiting new = (0 < bands_of m c) × WaitsFor u m c new

abbrev pub PutGives : Stance → Command → Put → Stance → Type 0
PutGives (standing u s) c put new = PutOn u (machine_of s) c put new
PutGives (waiting u asked) c put new = ⊥
PutGives nowhere c put new = ⊥

-- no reply is there and nothing changes; or a desk that waited has the private machine's reply, and
-- stands at the machine after the command
abbrev pub CollectGives : Stance → Option Reply → Stance → Type 0
CollectGives old None new = new ≡ old
CollectGives (waiting u asked) (Some r) new =
    (r ≡ reply (asked_machine asked) (asked_command asked))
    × StandsAt u (after (asked_machine asked) (asked_command asked)) new
CollectGives (standing u s) (Some r) new = ⊥
CollectGives nowhere (Some r) new = ⊥

-- the private machine's reply, and the desk at the machine after the command
abbrev pub AskGives : Stance → Command → Reply → Stance → Type 0
AskGives (standing u s) c r new =
    (r ≡ reply (machine_of s) c) × StandsAt u (after (machine_of s) c) new
AskGives (waiting u asked) c r new = ⊥
AskGives nowhere c r new = ⊥

-- the command needs no memory on the machine at which the desk stands
abbrev pub WantsNone : Stance → Command → Type 0
WantsNone (standing u s) c = may_want_memory (machine_of s) c ≡ false
WantsNone (waiting u asked) c = ⊥
WantsNone nowhere c = ⊥

-- the user's desk stands at the blank machine of a limit
abbrev pub IsBlankDesk : ℕ → Side → Stance → Type 0
IsBlankDesk u limit desk = StandsAt u (blank limit) desk
