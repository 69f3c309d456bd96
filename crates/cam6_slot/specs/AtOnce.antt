-- What a machine says of a user's command at once.
use Rattle.std.specs.Prelude.{◌≡◌, ◌<◌, Some}
use Rattle.cam6_commands.specs.declared.commands.Command.{Command}
use Rattle.cam6_machine.specs.declared.replies.Now.{Now}
use Rattle.cam6_machine.specs.declared.replies.Now.TheVariants as now
use Rattle.cam6_model.specs.Alone.{reply, after, work_of}
use Rattle.cam6_model.specs.Machine.{Machine}
use Rattle.cam6_slot.specs.Lefts.{bands_of}

-- the machine m says this of the command c, and becomes the machine `later`: the reply to a command
-- that has no bands, which is done; or the steps of one that has some, of which none is done
abbrev pub Says : Machine → Command → Now → Machine → Type 0
Says m c (now.Reply r) later = (bands_of m c ≡ 0) × (r ≡ reply m c) × (later ≡ after m c)
Says m c (now.Work n direction) later =
    (0 < bands_of m c) × (work_of m c ≡ Some (n, direction)) × (later ≡ m)
