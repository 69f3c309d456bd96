-- Steps of a command that are under way, and what is kept of them.
use Rattle.std.specs.Prelude.{ℕ, ◌≡◌, ◌<◌, ◌≤◌, ◌+◌, length}
use Rattle.cam6_planes.specs.Stored.{Stored}
use Rattle.cam6_cycle.specs.Along.{position_after}
use Rattle.cam6_cycle.specs.declared.tables.Direction.{Direction}
use Rattle.cam6_commands.specs.Limits.{max_steps}
use Rattle.cam6_commands.specs.declared.commands.Command.{Command}
use Rattle.cam6_model.specs.Alone.{command_of}
use Rattle.cam6_model.specs.Machine.{Machine}
use Rattle.cam6_model.specs.Moves.{CanMove}
use Rattle.cam6_machine.specs.Stored.{StoredKept, IsKept, machine_over}
use Rattle.cam6_slot.specs.declared.works.Milestone.{Milestone}

-- what the machine keeps beside its planes, as it was at the command; the way that the steps go, and
-- how many they are; the planes at home, and how far on those are; and how many whole steps are
-- done, there or on the way
pub record StoredWork : Type 0 where
  pub kept : StoredKept
  pub direction : Direction
  pub total : ℕ
  pub home : Stored
  pub base : Milestone
  pub reached : Milestone

abbrev pub stored_work :
    StoredKept → Direction → ℕ → Stored → Milestone → Milestone → StoredWork
stored_work kept direction total home base reached = record {
  kept = kept;
  direction = direction;
  total = total;
  home = home;
  base = base;
  reached = reached;
}

-- from the planes at home steps are still to be done; the way is as far on as home or further, and
-- no step is too many. Both positions are in the cycle, the machine can move this way, and the
-- image has its limit
pub record IsWork (w : StoredWork) : Type 0 where
  pub kept : IsKept w.kept
  pub home_within : w.base.position < length w.kept.cycle
  pub within : w.reached.position < length w.kept.cycle
  pub forth : w.base.steps ≤ w.reached.steps
  pub some : w.base.steps < w.total
  pub most : w.reached.steps ≤ w.total
  pub few : w.total ≤ max_steps
  pub limit : w.home.limit ≡ w.kept.limit
  pub can : (planes : Stored) → CanMove w.direction (machine_over planes w.kept)

-- where a command begins: no step is done
abbrev pub beginning : ℕ → Milestone
beginning position = record { steps = 0; position = position }

-- one step further on, the way along a cycle of so many entries
abbrev pub one_further : Direction → ℕ → Milestone → Milestone
one_further direction length at = record {
  steps = at.steps + 1;
  position = position_after direction length at.position;
}

-- a command with no step done
abbrev pub begun : StoredKept → Direction → ℕ → Stored → StoredWork
begun kept direction total home =
    stored_work kept direction total home (beginning kept.position) (beginning kept.position)

-- one whole step more is done
abbrev pub one_on : StoredWork → StoredWork
one_on w = record w { reached = one_further w.direction (length w.kept.cycle) w.reached }

-- all that is done is at home now, in these planes
abbrev pub home_at : Stored → StoredWork → StoredWork
home_at planes w = record w { home = planes; base = w.reached }

-- what isn't at home is lost
abbrev pub back_home : StoredWork → StoredWork
back_home w = record w { reached = w.base }

-- the machine with which the command began and the command itself, while its planes are at home
abbrev pub machine_at_home : StoredWork → Machine
machine_at_home w = machine_over w.home w.kept

abbrev pub command_in : StoredWork → Command
command_in w = command_of w.total w.direction
