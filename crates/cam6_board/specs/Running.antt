-- Bands of a job, one after another.
use Rattle.std.specs.Prelude.{ℕ, ◌<◌, ◌*◌, ◌-◌, ◌/◌, List, [], ◌∷◌, ⊤}
use Rattle.cam6_planes.specs.Stored.{width}
use Rattle.cam6_band.specs.Limits.{band}
use Rattle.cam6_board.specs.declared.boards.BandEnd.{BandEnd}
use Rattle.cam6_board.specs.Images.{planes_in, rows_of}
use Rattle.cam6_board.specs.Jobs.{StoredJob}
use Rattle.cam6_board.specs.Bands.{Moves}

-- how a band ended, and the job after it
pub record Banded : Type 0 where
  pub end : BandEnd
  pub job : StoredJob

-- bands one after another by the same tables, each of a job with steps that are still to be done
abbrev pub AreBands : List (List ℕ) → StoredJob → List Banded → Type 0
AreBands tables job [] = ⊤
AreBands tables job (one ∷ later) =
    (0 < job.steps) × Moves tables job one.end one.job × AreBands tables one.job later

-- the job after them
abbrev pub job_after : StoredJob → List Banded → StoredJob
job_after job [] = job
job_after job (one ∷ later) = job_after one.job later

-- the bands of one step of a job
abbrev pub bands_of_step : StoredJob → ℕ
bands_of_step job = width (planes_in job.image) / band

-- the bands that a job still needs: sixteen rows of each step, but for the rows that are done
abbrev pub bands_left : StoredJob → ℕ
bands_left job = (job.steps * width (planes_in job.image) - rows_of job.image) / band
