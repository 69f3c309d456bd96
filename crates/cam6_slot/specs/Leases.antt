-- Leases, and the jobs, images and tables that fit them.
use Rattle.std.specs.Prelude.{ℕ, ◌≡◌, ◌<◌, ◌+◌, ◌%◌, List}
use Rattle.cam6_planes.specs.Stored.{width, AreAlike}
use Rattle.cam6_band.specs.Limits.{band}
use Rattle.cam6_board.specs.declared.images.Image.{Image}
use Rattle.cam6_board.specs.declared.images.Image.TheVariants.{Rest, Mid}
use Rattle.cam6_board.specs.Images.{planes_in}
use Rattle.cam6_board.specs.Jobs.{StoredJob}
use Rattle.cam6_rules.specs.Filled.{AreTablesOf}
use Rattle.cam6_slot.specs.Works.{StoredWork, IsWork}

-- steps under way, the rows of the step under way that are done, and the number of the board
pub record StoredLease : Type 0 where
  pub work : StoredWork
  pub rows : ℕ
  pub board : ℕ

-- the rows are whole bands, fewer than those of a step; if some are done there is a step
pub record IsLease (l : StoredLease) : Type 0 where
  pub work : IsWork l.work
  pub rows : l.rows < width l.work.home
  pub bands : l.rows % band ≡ 0
  pub step : 0 < l.rows → l.work.reached.steps < l.work.total

-- so many rows of an image's step are done, and none of an image at rest
abbrev pub IsAtRow : ℕ → Image → Type 0
IsAtRow rows (Rest rest) = rows ≡ 0
IsAtRow rows (Mid mid) = (mid.done ≡ rows) × (0 < rows)

-- an image is like the one at home, and so many rows of its step are done
pub record ImageFits (w : StoredWork) (rows : ℕ) (image : Image) : Type 0 where
  pub alike : AreAlike w.home (planes_in image)
  pub row : IsAtRow rows image

-- a job is that of a lease: the image at the lease's row, the cycle of the machine, the way of the
-- command, the position that is reached, and the steps that are still to be done
pub record JobFits (l : StoredLease) (job : StoredJob) : Type 0 where
  pub image : ImageFits l.work l.rows job.image
  pub cycle : job.cycle ≡ l.work.kept.cycle
  pub direction : job.direction ≡ l.work.direction
  pub position : job.position ≡ l.work.reached.position
  pub steps : job.steps + l.work.reached.steps ≡ l.work.total

-- at the index of each use of a rule in the machine's cycle stands the rule's table for this way
abbrev pub TablesFit : StoredWork → List (List ℕ) → Type 0
TablesFit w tables = AreTablesOf w.direction w.kept.rules w.kept.cycle tables
