-- A command that is finished.
use Rattle.std.specs.Prelude.{ℕ, ◌≡◌}
use Rattle.cam6_planes.specs.Stored.{Stored}
use Rattle.cam6_cycle.specs.declared.tables.Direction.{Direction}
use Rattle.cam6_cycle.specs.declared.tables.Direction.TheVariants.{Forward, Backward}
use Rattle.cam6_commands.specs.declared.commands.Command.{Command}
use Rattle.cam6_commands.specs.declared.replies.Done.TheVariants as done
use Rattle.cam6_commands.specs.declared.replies.Reply.{Reply}
use Rattle.cam6_commands.specs.declared.replies.Reply.TheVariants as said
use Rattle.cam6_model.specs.Alone.{reply, after}
use Rattle.cam6_model.specs.Machine.{Machine}
use Rattle.cam6_machine.specs.Stored.{StoredMachine, machine_of}
use Rattle.cam6_slot.specs.Works.{StoredWork}

-- a machine, and the reply that its user hasn't had yet
pub record StoredFinished : Type 0 where
  pub machine : StoredMachine
  pub told : Reply

-- the machine is the one after the command, and the reply is the reply to it
pub record IsDone (f : StoredFinished) (m : Machine) (c : Command) : Type 0 where
  pub machine : machine_of f.machine ≡ after m c
  pub told : f.told ≡ reply m c

-- the reply to steps, once they have come to a position
abbrev pub reply_at : Direction → ℕ → Reply
reply_at Forward position = said.Done (done.Run position)
reply_at Backward position = said.Done (done.Back position)

-- what becomes of steps that are all done, with these planes
abbrev pub finished_with : StoredWork → Stored → StoredFinished
finished_with w planes = record {
  machine = record {
    kept = record w.kept { position = w.reached.position };
    planes = planes;
  };
  told = reply_at w.direction w.reached.position;
}
