-- Laws of jobs and their bands.
use Rattle.std.specs.Prelude.{ℕ, ◌≡◌, ◌<◌, ◌≤◌, ◌+◌, ◌*◌, ◌↔◌, List, length, true}
use Rattle.cam6_planes.specs.Side.{side_number}
use Rattle.cam6_band.specs.Limits.{band}
use Rattle.cam6_model.specs.Always.{IsMachine}
use Rattle.cam6_model.specs.Machine.{Machine}
use Rattle.cam6_board.specs.declared.boards.BandEnd.{BandEnd}
use Rattle.cam6_board.specs.declared.boards.BandEnd.TheVariants.{LastEnd}
use Rattle.cam6_board.specs.Images.{is_rest}
use Rattle.cam6_board.specs.Jobs.{StoredJob}
use Rattle.cam6_board.specs.Bands.{Moves}
use Rattle.cam6_board.specs.Running.{Banded, AreBands, job_after, bands_of_step, bands_left}
use Rattle.cam6_board.specs.Standing.{GoesAlong, IsStepsOn, steps_after}

-- a band of a job that goes along a machine's cycle takes it on as the machine moves: within a step
-- it is as many steps on as before, and after one, done or undone, it is one more
abbrev pub BandsFollowTheMachine : Type 0
BandsFollowTheMachine =
    (m : Machine) (tables : List (List ℕ)) (n : ℕ) (before after : StoredJob) (end : BandEnd) →
    IsMachine m → GoesAlong m tables before → IsStepsOn m n before →
    Moves tables before end after →
    GoesAlong m tables after × IsStepsOn m (steps_after end n) after

-- the bands of so many steps, one after another from rest, are these steps by the words of the
-- rules, or these steps undone, and the image is at rest after them
abbrev pub BandsAreSteps : Type 0
BandsAreSteps =
    (m : Machine) (tables : List (List ℕ)) (n steps : ℕ) (job : StoredJob)
    (bands : List Banded) →
    IsMachine m → GoesAlong m tables job → IsStepsOn m n job → is_rest job.image ≡ true →
    AreBands tables job bands → length bands * band ≡ steps * side_number m.side →
    (is_rest (job_after job bands).image ≡ true)
    × IsStepsOn m (n + steps) (job_after job bands)

-- each band leaves one band less, and ends as the last one exactly if no step is to be done then
abbrev pub EachBandIsOneLess : Type 0
EachBandIsOneLess =
    (tables : List (List ℕ)) (before after : StoredJob) (end : BandEnd) →
    0 < before.steps → Moves tables before end after →
    (bands_left after + 1 ≡ bands_left before) × ((end ≡ LastEnd) ↔ (after.steps ≡ 0))

-- a job at rest takes as many bands as its steps have, and no more: after that many, and after no
-- fewer, no step is to be done
abbrev pub JobsEnd : Type 0
JobsEnd =
    (tables : List (List ℕ)) (job : StoredJob) (bands : List Banded) →
    is_rest job.image ≡ true → AreBands tables job bands →
    let all = job.steps * bands_of_step job in
    (length bands ≤ all) × (((job_after job bands).steps ≡ 0) ↔ (length bands ≡ all))
