-- What a machine says of a command at once: a reply, or that there are steps to do.
use Rattle.std.specs.Prelude.{◌≡◌, ℕ, ◌≤◌, Option, Some, None, ⊤}
use Rattle.cam6_cycle.specs.declared.tables.Direction.{Direction}
use Rattle.cam6_model.specs.Machine.{Machine}
use Rattle.cam6_model.specs.Refusals.{refusal}
use Rattle.cam6_model.specs.Alone.{reply as reply_to, after, command_of}
use Rattle.cam6_commands.specs.declared.commands.Command.{Command}
use Rattle.cam6_machine.specs.declared.replies.Now.{Now}
use Rattle.cam6_machine.specs.declared.replies.Now.TheVariants as now

-- the steps that are left to do, and their direction, if there are any
abbrev pub work_in : Now → Option (ℕ × Direction)
work_in (now.Reply r) = None
work_in (now.Work n direction) = Some (n, direction)

-- a reply is the reply to the command
abbrev pub IsReplyTo : Now → Machine → Command → Type 0
IsReplyTo (now.Reply r) m c = r ≡ reply_to m c
IsReplyTo (now.Work n direction) m c = ⊤

-- with a reply the command is done, and with steps left to do nothing is done yet
abbrev pub machine_then : Now → Machine → Command → Machine
machine_then (now.Reply r) m c = after m c
machine_then (now.Work n direction) m c = m

-- steps that are left can be done: there is at least one, and their command is not refused
abbrev pub CanWork : Now → Machine → Type 0
CanWork (now.Reply r) m = ⊤
CanWork (now.Work n direction) m = (1 ≤ n) × (refusal m (command_of n direction) ≡ None)
