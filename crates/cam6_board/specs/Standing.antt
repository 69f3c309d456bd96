-- How far a job has gone along the cycle of a machine.
use Rattle.std.specs.Prelude.{ℕ, ◌≡◌, ◌<◌, ◌+◌, List, length}
use Rattle.cam6_model.specs.Machine.{Machine}
use Rattle.cam6_model.specs.Moves.{moved, CanMove}
use Rattle.cam6_rules.specs.Numbers.{named_entries, AreNumbered}
use Rattle.cam6_rules.specs.Filled.{AreTablesOf}
use Rattle.cam6_board.specs.declared.boards.BandEnd.{BandEnd}
use Rattle.cam6_board.specs.declared.boards.BandEnd.TheVariants.{Inside, StepEnd, LastEnd}
use Rattle.cam6_board.specs.Images.{planes_in, IsOnTheWay}
use Rattle.cam6_board.specs.Jobs.{StoredJob}

-- a job goes along a machine's cycle by the true tables, a way that the machine can move; its
-- entries are the machine's, by the numbers of its rules, with the position among them
pub record GoesAlong (m : Machine) (tables : List (List ℕ)) (job : StoredJob) : Type 0 where
  pub numbered : AreNumbered m.rules job.cycle
  pub cycle : m.cycle ≡ named_entries m.rules job.cycle
  pub within : job.position < length job.cycle
  pub can : CanMove job.direction m
  pub true_tables : AreTablesOf job.direction m.rules job.cycle tables

-- a job is n steps on from a machine: it has the side of the machine, and its position n steps on;
-- it shows the planes n steps on, or is partway from them to those one step further on
pub record IsStepsOn (m : Machine) (n : ℕ) (job : StoredJob) : Type 0 where
  pub side : (planes_in job.image).side ≡ m.side
  pub position : job.position ≡ (moved job.direction n m).position
  pub planes : IsOnTheWay (moved job.direction n m).planes
      (moved job.direction (n + 1) m).planes job.image

-- how many steps on a job is after a band, if it was n steps on before
abbrev pub steps_after : BandEnd → ℕ → ℕ
steps_after Inside n = n
steps_after StepEnd n = n + 1
steps_after LastEnd n = n + 1
