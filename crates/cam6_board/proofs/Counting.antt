-- How many bands a job takes.
use Rattle.std.proofs.Common.{◌≡◌, ◌∙◌, ℕ, zero, suc, ◌+◌, ◌-◌, ◌*◌, ◌/◌, ◌<◌, ◌≤◌, ◌↔◌, List, [], ◌∷◌}
use Rattle.std.proofs.Common.{length, true, false, refl, sym, ap, arith, lit≤}
use Rattle.std.proofs.Math.Nat.{suc-mul, add-div_right, mul_assoc, zero-mul, lt-div-mul-add}
use Rattle.std.proofs.lemmas.Nat.{div-mul-add}
use Rattle.cam6_planes.specs.Side.{side_number}
use Rattle.cam6_planes.specs.declared.sides.Side.{Side}
use Rattle.cam6_planes.specs.declared.sides.Side.TheVariants.{S128, S256, S512}
use Rattle.cam6_planes.specs.Stored.{width}
use Rattle.cam6_band.specs.Limits.{band}
use Rattle.cam6_board.specs.declared.boards.BandEnd.{BandEnd}
use Rattle.cam6_board.specs.declared.boards.BandEnd.TheVariants.{LastEnd}
use Rattle.cam6_board.specs.declared.images.Image.{Image}
use Rattle.cam6_board.specs.declared.images.Image.TheVariants.{Rest, Mid}
use Rattle.cam6_board.specs.Images.{planes_in, rows_of, is_rest, GoesOn}
use Rattle.cam6_board.specs.Jobs.{StoredJob}
use Rattle.cam6_board.specs.Bands.{end_of, Counts}
use Rattle.cam6_board.specs.Running.{Banded, AreBands, job_after, bands_of_step, bands_left}
use Rattle.cam6_board.specs.Laws.{EachBandIsOneLess, JobsEnd}

some_band : 0 < band
some_band = lit≤ tt

-- some steps have the rows of one at least
one_step_at_least : (steps s : ℕ) → 0 < steps → s ≤ steps * s
one_step_at_least zero s some = absurd (omega (arith, some))
one_step_at_least (suc steps) s some = omega (arith, suc-mul steps s)

-- so many rows less by a band are less by one band
band_more : (rows : ℕ) → rows / band + 1 ≡ (rows + band) / band
band_more rows = sym (add-div_right rows some_band)

module _ (tables : List (List ℕ)) (before after : StoredJob) (end : BandEnd) (some : 0 < before.steps) where
  left : (image : Image) → GoesOn before.image image → Counts image before end after →
      (after.steps * width (planes_in image) - rows_of image) / band + 1 ≡ bands_left before
  left (Mid mid) goes_on counts =
      let s = width (planes_in before.image) in
      let r = rows_of before.image in
      let all = before.steps * s in
      let rows = all - (r + band) in
      let same : after.steps * width mid.planes - mid.done ≡ rows =
      ap (λ (k : Side). after.steps * side_number k - mid.done) goes_on.0.side ∙
      ap (λ k. k * s - mid.done) counts.2 ∙ ap (λ d. all - d) goes_on.1 in
      let whole : rows + band ≡ all - r =
      omega (arith, goes_on.2, one_step_at_least before.steps s some) in
      ap (λ k. k / band + 1) same ∙ band_more rows ∙ ap (λ k. k / band) whole
  left (Rest rest) goes_on counts =
      let s = width (planes_in before.image) in
      let r = rows_of before.image in
      let rows = after.steps * s in
      let less_none : rows - 0 ≡ rows = omega arith in
      let same : after.steps * width rest.planes - 0 ≡ rows =
      ap (λ (k : Side). after.steps * side_number k - 0) goes_on.0.side ∙ less_none in
      let one : before.steps ≡ suc after.steps = omega (arith, counts.2) in
      let all : before.steps * s ≡ rows + s = ap (λ k. k * s) one ∙ suc-mul after.steps s in
      let whole : rows + band ≡ before.steps * s - r = omega (arith, all, goes_on.1) in
      ap (λ k. k / band + 1) same ∙ band_more rows ∙ ap (λ k. k / band) whole

  told : (image : Image) → Counts image before end after → (end ≡ LastEnd) ↔ (after.steps ≡ 0)
  told (Mid mid) counts = (
    λ last. cc (counts.0, last),
    λ none. absurd (omega (arith, none, counts.2, some)),
  )
  told (Rest rest) counts = by_steps after.steps counts.0
    where
      by_steps : (steps : ℕ) → end ≡ end_of steps → (end ≡ LastEnd) ↔ (steps ≡ 0)
      by_steps zero is = (λ last. refl, λ none. is)
      by_steps (suc steps) is = (λ last. cc (is, last), λ none. cc none)

pub each_band_is_one_less : EachBandIsOneLess
each_band_is_one_less tables before after end some moves = (
  left tables before after end some after.image moves.goes_on moves.counts,
  told tables before after end some after.image moves.counts,
)

-- the bands of a side
bands_of : (side : Side) →
    (bands : ℕ) × (side_number side ≡ bands * band) × (0 < bands)
bands_of S128 = (8, refl, lit≤ tt)
bands_of S256 = (16, refl, lit≤ tt)
bands_of S512 = (32, refl, lit≤ tt)

-- so many whole bands are done, another one has room, and within a step some are
pub record IsSteady (image : Image) : Type 0 where
  pub bands : ℕ
  pub rows : rows_of image ≡ bands * band
  pub room : rows_of image + band ≤ width (planes_in image)
  pub under : is_rest image ≡ false → 0 < rows_of image

pub rest_is_steady : (image : Image) → is_rest image ≡ true → IsSteady image
rest_is_steady (Mid mid) at_rest = cc at_rest
rest_is_steady (Rest rest) at_rest =
    let (bands, whole, some) = bands_of rest.planes.side in
    record {
      bands = 0;
      rows = refl;
      room = omega (arith, whole, some);
      under = λ no. cc no;
    }

steady_stays : (before image : Image) → GoesOn before image → IsSteady before → IsSteady image
steady_stays before (Rest rest) goes_on steady = rest_is_steady (Rest rest) refl
steady_stays before (Mid mid) goes_on steady =
    let (bands, whole, some) = bands_of (planes_in before).side in
    let same : width mid.planes ≡ width (planes_in before) = ap side_number goes_on.0.side in
    record {
      bands = steady.bands + 1;
      rows = omega (arith, goes_on.1, steady.rows);
      room = omega (arith, same, whole, goes_on.1, goes_on.2, steady.rows);
      under = λ no. omega (arith, goes_on.1);
    }

pub steady_after : (tables : List (List ℕ)) (job : StoredJob) (bands : List Banded) →
    AreBands tables job bands → IsSteady job.image → IsSteady (job_after job bands).image
steady_after tables job [] are steady = steady
steady_after tables job (one ∷ later) are steady =
    steady_after tables one.job later are.2
    (steady_stays job.image one.job.image are.1.goes_on steady)

-- the bands that were and those that are left are those that there were to be
count_down : (tables : List (List ℕ)) (job : StoredJob) (bands : List Banded) →
    AreBands tables job bands →
    length bands + bands_left (job_after job bands) ≡ bands_left job
count_down tables job [] are = omega arith
count_down tables job (one ∷ later) are =
    omega (
      arith,
      count_down tables one.job later are.2,
      (each_band_is_one_less tables job one.job one.end are.0 are.1).0,
    )

-- at rest those of all steps are left
all_left : (job : StoredJob) → is_rest job.image ≡ true →
    bands_left job ≡ job.steps * bands_of_step job
all_left job at_rest = by_image job.image at_rest
  where
    by_image : (image : Image) → is_rest image ≡ true →
        (job.steps * width (planes_in image) - rows_of image) / band
        ≡ job.steps * (width (planes_in image) / band)
    by_image (Mid mid) rest = cc rest
    by_image (Rest rest) at =
        let (bands, whole, some) = bands_of rest.planes.side in
        let none_more : (n : ℕ) → (n * band) / band ≡ n =
        λ n. let zero_more : n * band ≡ n * band + 0 = omega arith in
        ap (λ k. k / band) zero_more ∙ div-mul-add n band 0 some_band in
        let less_none : job.steps * width rest.planes - 0 ≡ job.steps * width rest.planes =
        omega arith in
        ap (λ k. k / band)
        (less_none ∙ ap (λ k. job.steps * k) whole ∙ sym (mul_assoc job.steps bands band)) ∙
        none_more (job.steps * bands) ∙
        ap (λ k. job.steps * k) (sym (ap (λ k. k / band) whole ∙ none_more bands))

-- none is left exactly where no step is
none_left : (job : StoredJob) → job.steps ≡ 0 → bands_left job ≡ 0
none_left job none =
    let s = width (planes_in job.image) in
    let r = rows_of job.image in
    let nothing : job.steps * s - r ≡ 0 =
    omega (arith, ap (λ k. k * s) none ∙ zero-mul s) in
    ap (λ k. k / band) nothing

no_step_left : (job : StoredJob) → IsSteady job.image → bands_left job ≡ 0 → job.steps ≡ 0
no_step_left job steady none = by_steps job.steps refl
  where
    by_steps : (steps : ℕ) → job.steps ≡ steps → job.steps ≡ 0
    by_steps zero is = is
    by_steps (suc steps) is =
        let s = width (planes_in job.image) in
        let r = rows_of job.image in
        let some : 0 < job.steps = omega (arith, is) in
        let less : job.steps * s - r < bands_left job * band + band =
        lt-div-mul-add some_band in
        absurd (omega (arith, less, none, steady.room, one_step_at_least job.steps s some))

pub jobs_end : JobsEnd
jobs_end tables job bands at_rest are =
    let last = job_after job bands in
    let all : length bands + bands_left last ≡ job.steps * bands_of_step job =
    count_down tables job bands are ∙ all_left job at_rest in
    let steady = steady_after tables job bands are (rest_is_steady job.image at_rest) in (
      omega (arith, all),
      (
        λ none. omega (arith, all, none_left last none),
        λ whole. no_step_left last steady (omega (arith, all, whole)),
      ),
    )
