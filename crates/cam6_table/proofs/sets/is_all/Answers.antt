use Rattle.std.proofs.Common.{◌≡◌, ◌∙◌, slice_index, arith, inl, inr, ap}
use Rattle.std.proofs.lemmas.Bool.{cases_lt}
use Rattle.std.proofs.lemmas.Nat.{le_or_l, le_or_r}
use Rattle.cam6_table.proofs.sets.is_all.Goals as goal

pub loop-lane-preserved : goal.loop-lane-preserved
loop-lane-preserved c = λ none k below.
    let l = c.loop-lane in
    let here = c.missing_bits-missing.result in
    let before : l.missing ≡ 0 = omega (arith, le_or_l l.missing here) in
    let last : here ≡ 0 = omega (arith, le_or_r l.missing here) in
    elim (cases_lt k l.lane) [
      | inl less ↦ l.invariant before k less
      | inr least ↦ (let is : k ≡ l.lane = omega (arith, below, least) in
          ap (λ j. slice_index c.args.set.now j) is ∙ c.missing_bits-missing.ensures last)
    ]
