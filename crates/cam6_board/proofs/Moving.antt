-- A band moves a job, by what it makes of the image.
use Rattle.std.proofs.Common.{◌≡◌, ℕ, ◌+◌, List, Some, true, false, length, refl, subst}
use Rattle.cam6_planes.specs.Cells.{Cells}
use Rattle.cam6_planes.specs.Stored.{width}
use Rattle.cam6_cycle.specs.Along.{position_after}
use Rattle.cam6_band.specs.ByTables.{StepTables, step_by}
use Rattle.cam6_board.specs.declared.boards.BandEnd.TheVariants.{Inside}
use Rattle.cam6_board.specs.declared.images.Image.{Image}
use Rattle.cam6_board.specs.declared.images.Image.TheVariants.{Rest, Mid}
use Rattle.cam6_board.specs.Images.{planes_in, is_rest, IsOnTheWay, IsAfterBand, GoesOn}
use Rattle.cam6_board.specs.Jobs.{StoredJob, stored_job}
use Rattle.cam6_board.specs.Bands.{step_of, end_of, Counts, Moves}

module _ (tables : List (List ℕ)) (before : StoredJob) (image : Image) (by : StepTables)
    (goes : step_of before tables ≡ Some by) (on : GoesOn before.image image)
    (planes : (o : Cells) →
    IsOnTheWay o (step_by (width (planes_in before.image)) by o) before.image →
    IsAfterBand o (step_by (width (planes_in before.image)) by o) image) where
  by_these : (o : Cells) (step : StepTables) → step_of before tables ≡ Some step →
      IsOnTheWay o (step_by (width (planes_in before.image)) step o) before.image →
      IsAfterBand o (step_by (width (planes_in before.image)) step o) image
  by_these o step at =
      let same : by ≡ step = cc (goes, at) in
      subst (λ (s : StepTables).
      IsOnTheWay o (step_by (width (planes_in before.image)) s o) before.image →
      IsAfterBand o (step_by (width (planes_in before.image)) s o) image) same (planes o)

  -- within a step
  pub inside : is_rest image ≡ false →
      Moves tables before Inside
      (stored_job image before.cycle before.position before.direction before.steps)
  inside rest = record {
    cycle = refl;
    direction = refl;
    goes_on = on;
    counts = counted image rest;
    planes = by_these;
  }
    where
      counted : (i : Image) → is_rest i ≡ false →
          Counts i before Inside
          (stored_job image before.cycle before.position before.direction before.steps)
      counted (Rest rest) e = cc e
      counted (Mid mid) e = (refl, refl, refl)

  -- at the end of one
  pub beyond : (steps : ℕ) → is_rest image ≡ true → steps + 1 ≡ before.steps →
      Moves tables before (end_of steps)
      (stored_job image before.cycle
      (position_after before.direction (length before.cycle) before.position) before.direction
      steps)
  beyond steps rest less = record {
    cycle = refl;
    direction = refl;
    goes_on = on;
    counts = counted image rest;
    planes = by_these;
  }
    where
      counted : (i : Image) → is_rest i ≡ true →
          Counts i before (end_of steps)
          (stored_job image before.cycle
          (position_after before.direction (length before.cycle) before.position)
          before.direction steps)
      counted (Rest rest) e = (refl, refl, less)
      counted (Mid mid) e = cc e
