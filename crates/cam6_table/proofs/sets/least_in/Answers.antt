use Rattle.std.proofs.Common.{◌≡◌, ◌∙◌, slice_index, arith, inl, inr, ap, sym}
use Rattle.std.proofs.lemmas.Bool.{cases_lt}
use Rattle.cam6_table.proofs.ChosenValues.{kept_in}
use Rattle.cam6_table.proofs.sets.least_in.Goals as goal

pub loop-lane-preserved : goal.loop-lane-preserved
loop-lane-preserved c = λ k below inside.
    let l = c.loop-lane in
    let set = c.args.set.now in
    let values = c.args.values.now in
    let least = c.min-least.ensures in
    elim (cases_lt k l.lane) [
      | inl less ↦ (let before = l.invariant k less inside in omega arith)
      | inr most ↦ (let is : k ≡ l.lane = omega (arith, below, most) in
          let same = ap (λ j. slice_index values j) is in
          let here = kept_in (slice_index values l.lane) (slice_index set l.lane)
          (sym (ap (λ j. slice_index set j) is) ∙ inside) in
          omega arith)
    ]
