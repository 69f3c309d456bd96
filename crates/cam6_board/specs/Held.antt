-- What a board holds.
use Rattle.std.specs.Prelude.{ℕ, ◌≡◌, ◌<◌, List, Option, Some, None, ⊤}
use Rattle.cam6_planes.specs.declared.sides.Side.{Side}
use Rattle.cam6_board.specs.declared.boards.BandEnd.{BandEnd}
use Rattle.cam6_board.specs.declared.images.Image.{Image}
use Rattle.cam6_board.specs.Images.{planes_in, rows_of}
use Rattle.cam6_board.specs.Jobs.{StoredJob}
use Rattle.cam6_board.specs.Bands.{Moves}

-- nothing, or a job and the tables that it uses
pub data Load : Type 0 where
  empty : Load
  loaded : StoredJob → List (List ℕ) → Load

-- the rows of the step under way that are done, if there is a job
abbrev pub rows_held : Load → Option ℕ
rows_held empty = None
rows_held (loaded job tables) = Some (rows_of job.image)

-- there is a job
abbrev pub IsLoaded : Load → Type 0
IsLoaded empty = ⊥
IsLoaded (loaded job tables) = ⊤

-- there is a job with steps that are still to be done
abbrev pub HasWork : Load → Type 0
HasWork empty = ⊥
HasWork (loaded job tables) = 0 < job.steps

-- a band moves the job by the tables that are held, and those stay
abbrev pub MovesHeld : Load → BandEnd → Load → Type 0
MovesHeld (loaded before tables) end (loaded after kept) =
    Moves tables before end after × (kept ≡ tables)
MovesHeld _ end _ = ⊥

-- the image of the job is given back as it is
abbrev pub GivesBack : Load → Image → Type 0
GivesBack empty image = ⊥
GivesBack (loaded job tables) image = image ≡ job.image

-- planes of the limit of the image that is held
abbrev pub IsOfLimit : Load → Side → Type 0
IsOfLimit empty limit = ⊥
IsOfLimit (loaded job tables) limit = limit ≡ (planes_in job.image).limit
