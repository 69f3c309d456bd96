-- Bands one after another are the steps of the machine along whose cycle a job goes.
use Rattle.std.proofs.Common.{◌≡◌, ◌∙◌, ℕ, zero, suc, ◌+◌, ◌*◌, ◌/◌, ◌<◌, List, [], ◌∷◌, length}
use Rattle.std.proofs.Common.{true, false, Bool, refl, sym, ap, subst, arith}
use Rattle.std.proofs.Math.Nat.{suc-mul, zero-mul}
use Rattle.std.proofs.lemmas.Nat.{div-mul-add}
use Rattle.cam6_planes.specs.Side.{side_number}
use Rattle.cam6_band.specs.Limits.{band}
use Rattle.cam6_model.specs.Machine.{Machine}
use Rattle.cam6_model.specs.Always.{IsMachine}
use Rattle.cam6_model.proofs.StepsOfATorus.{side_some}
use Rattle.cam6_board.specs.declared.images.Image.{Image}
use Rattle.cam6_board.specs.declared.images.Image.TheVariants.{Rest, Mid}
use Rattle.cam6_board.specs.declared.boards.BandEnd.{BandEnd}
use Rattle.cam6_board.specs.Images.{planes_in, rows_of, is_rest, GoesOn}
use Rattle.cam6_board.specs.Jobs.{StoredJob}
use Rattle.cam6_board.specs.Bands.{Counts}
use Rattle.cam6_board.specs.Running.{Banded, AreBands, job_after}
use Rattle.cam6_board.specs.Standing.{GoesAlong, IsStepsOn, steps_after}
use Rattle.cam6_board.specs.Laws.{BandsAreSteps}
use Rattle.cam6_board.proofs.Following.{bands_follow, one_more_after}
use Rattle.cam6_board.proofs.Counting.{IsSteady, rest_is_steady, steady_after}

-- so many times and so many more are all of them
add_times : (a b s : ℕ) → (a + b) * s ≡ a * s + b * s
add_times zero b s =
    let none : 0 + b ≡ b = omega arith in
    omega (arith, ap (λ k. k * s) none, zero-mul s)
add_times (suc a) b s =
    let one : suc a + b ≡ suc (a + b) = omega arith in
    omega (arith, ap (λ k. k * s) one, suc-mul (a + b) s, suc-mul a s, add_times a b s)

-- how many steps a band adds
record Adds (n s : ℕ) (before after : Image) (end : BandEnd) : Type 0 where
  steps : ℕ
  beyond : steps_after end n ≡ n + steps
  rows : steps * s + rows_of after ≡ rows_of before + band

adds : (n s : ℕ) (before after : StoredJob) (end : BandEnd) (image : Image) →
    s ≡ side_number (planes_in before.image).side → GoesOn before.image image →
    Counts image before end after → Adds n s before.image image end
adds n s before after end (Mid mid) side goes_on counts =
    let none : n ≡ n + 0 = omega arith in
    record {
      steps = 0;
      beyond = ap (λ e. steps_after e n) counts.0 ∙ none;
      rows = omega (arith, goes_on.1, zero-mul s);
    }
adds n s before after end (Rest rest) side goes_on counts =
    record {
      steps = 1;
      beyond = ap (λ e. steps_after e n) counts.0 ∙ one_more_after after.steps n;
      rows = omega (arith, goes_on.1, side, suc-mul 0 s, zero-mul s);
    }

-- how many steps bands are, and how many rows they have made of the next one
record Comes (m : Machine) (n : ℕ) (job : StoredJob) (bands : List Banded) : Type 0 where
  steps : ℕ
  on : IsStepsOn m (n + steps) (job_after job bands)
  rows : steps * side_number m.side + rows_of (job_after job bands).image
      ≡ length bands * band + rows_of job.image

comes : (m : Machine) (tables : List (List ℕ)) (n : ℕ) (job : StoredJob) (bands : List Banded) →
    IsMachine m → GoesAlong m tables job → IsStepsOn m n job → AreBands tables job bands →
    Comes m n job bands
comes m tables n job [] is goes on are =
    let none : n ≡ n + 0 = omega arith in
    record {
      steps = 0;
      on = subst (λ k. IsStepsOn m k job) none on;
      rows = omega (arith, zero-mul (side_number m.side));
    }
comes m tables n job (one ∷ later) is goes on are =
    let s = side_number m.side in
    let (still, stands) = bands_follow m tables n job one.job one.end is goes on are.1 in
    let added = adds n s job one.job one.end one.job.image (ap side_number (sym on.side))
    are.1.goes_on are.1.counts in
    let rest = comes m tables (steps_after one.end n) one.job later is still stands are.2 in
    let sum : steps_after one.end n + rest.steps ≡ n + (added.steps + rest.steps) =
    omega (arith, added.beyond) in
    let product : (added.steps + rest.steps) * s ≡ added.steps * s + rest.steps * s =
    add_times added.steps rest.steps s in
    record {
      steps = added.steps + rest.steps;
      on = subst (λ k. IsStepsOn m k (job_after one.job later)) sum rest.on;
      rows = omega (arith, product, added.rows, rest.rows);
    }

-- an image of which no row is made of a next step is at rest
at_rest : (image : Image) → IsSteady image → rows_of image ≡ 0 → is_rest image ≡ true
at_rest image steady none = by_test (is_rest image) refl
  where
    by_test : (b : Bool) → is_rest image ≡ b → is_rest image ≡ true
    by_test true is = is
    by_test false is = absurd (omega (arith, steady.under is, none))

pub bands_are_steps : BandsAreSteps
bands_are_steps m tables n steps job bands is goes on rest are whole =
    let s = side_number m.side in
    let last = job_after job bands in
    let come = comes m tables n job bands is goes on are in
    let steady = steady_after tables job bands are (rest_is_steady job.image rest) in
    let begun : rows_of job.image ≡ 0 = no_rows job.image rest in
    let side : side_number (planes_in last.image).side ≡ s = ap side_number come.on.side in
    let few : rows_of last.image < s = omega (arith, steady.room, side) in
    let sum : come.steps * s + rows_of last.image ≡ steps * s + 0 =
    omega (arith, come.rows, whole, begun) in
    let all : come.steps ≡ steps =
    sym (div-mul-add come.steps s (rows_of last.image) few) ∙ ap (λ k. k / s) sum ∙
    div-mul-add steps s 0 (side_some m.side) in
    let none : rows_of last.image ≡ 0 = omega (arith, sum, ap (λ k. k * s) all) in
    (at_rest last.image steady none, subst (λ k. IsStepsOn m (n + k) last) all come.on)
  where
    no_rows : (image : Image) → is_rest image ≡ true → rows_of image ≡ 0
    no_rows (Rest rest) is = refl
    no_rows (Mid mid) is = cc is
