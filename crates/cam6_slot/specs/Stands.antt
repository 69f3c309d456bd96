-- For which machine and which command a place stands.
--
-- Nothing here depends on a board, or on how often the command was taken off one. A half-done step
-- is no state of a private machine. It is partway between two of them: so many whole steps on from
-- the machine, and one more.
use Rattle.std.specs.Prelude.{◌≡◌, ◌+◌, Some}
use Rattle.cam6_planes.specs.Cells.{cells}
use Rattle.cam6_commands.specs.declared.commands.Command.{Command}
use Rattle.cam6_model.specs.Alone.{work_of}
use Rattle.cam6_model.specs.Always.{IsMachine}
use Rattle.cam6_model.specs.Machine.{Machine}
use Rattle.cam6_model.specs.Moves.{moved}
use Rattle.cam6_machine.specs.Stored.{machine_over}
use Rattle.cam6_board.specs.Jobs.{StoredJob}
use Rattle.cam6_board.specs.Standing.{IsStepsOn}
use Rattle.cam6_slot.specs.Works.{StoredWork}
use Rattle.cam6_slot.specs.Parking.{StoredQueued, IsParkedBetween}
use Rattle.cam6_slot.specs.Leases.{StoredLease, JobFits}

-- steps of a command on a machine are under way: they are the command's steps; all that is kept is
-- the machine's; at home are the planes and the position of the machine so many steps on
pub record IsUnderWay (w : StoredWork) (m : Machine) (c : Command) : Type 0 where
  pub machine : IsMachine m
  pub work : work_of m c ≡ Some (w.total, w.direction)
  pub kept : record (machine_over w.home w.kept) { planes = m.planes } ≡ m
  pub home : cells w.home ≡ (moved w.direction w.base.steps m).planes
  pub position : w.base.position ≡ (moved w.direction w.base.steps m).position

-- a command that waits for a board stands for the machine and the command with which it began; its
-- position is that of the machine as many steps on as are done; a parked step is partway from the
-- planes there to those one step further on
pub record Stands (q : StoredQueued) (m : Machine) (c : Command) : Type 0 where
  pub work : IsUnderWay q.work m c
  pub position :
      q.work.reached.position ≡ (moved q.work.direction q.work.reached.steps m).position
  pub parked :
      IsParkedBetween (moved q.work.direction q.work.reached.steps m).planes
      (moved q.work.direction (q.work.reached.steps + 1) m).planes q.parked

-- a lease stands for them with the job that is its board's: the job fits it, and is as many steps on
-- from the machine
pub record StandsOut (l : StoredLease) (job : StoredJob) (m : Machine) (c : Command) : Type 0 where
  pub work : IsUnderWay l.work m c
  pub fits : JobFits l job
  pub on : IsStepsOn m l.work.reached.steps job
