-- A private machine: what it replies to each command, and what it then is.
use Rattle.std.specs.Prelude.{ℕ, zero, suc, List, [], ◌∷◌, Option, Some, None}
use Rattle.cam6_cycle.specs.declared.tables.Direction.{Direction}
use Rattle.cam6_cycle.specs.declared.tables.Direction.TheVariants.{Forward, Backward}
use Rattle.cam6_model.specs.Machine.{Machine}
use Rattle.cam6_model.specs.Refusals.{refusal}
use Rattle.cam6_model.specs.Effects.{accepted, effect}
use Rattle.cam6_commands.specs.declared.commands.Command.{Command}
use Rattle.cam6_commands.specs.declared.commands.Command.TheVariants.{Run, Back}
use Rattle.cam6_commands.specs.declared.refusals.Refusal.{Refusal}
use Rattle.cam6_commands.specs.declared.replies.Reply.{Reply}
use Rattle.cam6_commands.specs.declared.replies.Reply.TheVariants.{Done, Refused}

-- the first if there is a refusal, and else the second
abbrev pub if_refused : {A : Type 0} → Option Refusal → (Refusal → A) → A → A
if_refused None refused accepted = accepted
if_refused (Some r) refused accepted = refused r

-- the reply to a command: why it is refused, or what is done
abbrev pub reply : Machine → Command → Reply
reply m c = if_refused (refusal m c) (λ r. Refused r) (Done (accepted m c))

-- the machine after a command; a refused one leaves it as it was
abbrev pub after : Machine → Command → Machine
after m c = if_refused (refusal m c) (λ r. m) (effect m c)

-- the replies to commands, in order
abbrev pub replies : Machine → List Command → List Reply
replies m [] = []
replies m (c ∷ later) = reply m c ∷ replies (after m c) later

-- the machine after them
abbrev pub after_all : Machine → List Command → Machine
after_all m [] = m
after_all m (c ∷ later) = after_all (after m c) later

-- so many steps in a direction, if it is one at least
abbrev pub some_steps : ℕ → Direction → Option (ℕ × Direction)
some_steps zero direction = None
some_steps (suc n) direction = Some (suc n, direction)

-- the steps that a command does, and their direction, if it does any
abbrev pub work_of : Machine → Command → Option (ℕ × Direction)
work_of m (Run n) = if_refused (refusal m (Run n)) (λ r. None) (some_steps n Forward)
work_of m (Back n) = if_refused (refusal m (Back n)) (λ r. None) (some_steps n Backward)
work_of m c = None

-- the command that does so many steps
abbrev pub command_of : ℕ → Direction → Command
command_of n Forward = Run n
command_of n Backward = Back n
