use Rattle.std.proofs.Common.{◌≡◌, slice_index, arith, inl, inr, ap}
use Rattle.std.proofs.lemmas.Bool.{cases_lt}
use Rattle.std.proofs.lemmas.Nat.{le_or_l, le_or_r}
use Rattle.cam6_table.proofs.sets.is_none.Goals as goal

pub loop-lane-preserved : goal.loop-lane-preserved
loop-lane-preserved c = λ k below.
    let l = c.loop-lane in
    let set = c.args.set.now in
    let here = slice_index set l.lane in
    let before = le_or_l l.some here in
    let last = le_or_r l.some here in
    elim (cases_lt k l.lane) [
      | inl less ↦ omega (arith, l.invariant k less)
      | inr least ↦ (let is : k ≡ l.lane = omega (arith, below, least) in
          let same = ap (λ j. slice_index set j) is in omega arith)
    ]
