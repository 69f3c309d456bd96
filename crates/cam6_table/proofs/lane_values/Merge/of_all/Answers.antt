use Rattle.std.proofs.Common.{◌≡◌, ◌∙◌, ◌∷◌, ℕ, List, Ok, slice_index, arith}
use Rattle.std.proofs.lemmas.List.{length-set}
use Rattle.cam6_table.specs.Words.{on_stack}
use Rattle.cam6_table.specs.Internal.LaneValues.{Fits, stack_word}
use Rattle.cam6_table.proofs.EachLane.{one_lane_more}
use Rattle.cam6_table.proofs.lane_values.Merge.of_all.Goals as goal

pub loop-lane-preserved : goal.loop-lane-preserved
loop-lane-preserved c =
    let l = c.loop-lane in
    let a = c.args.a.now in
    let b = c.args.b.now in
    let left = c.of.result in
    record {
      lanes = length-set l.values l.lane left ∙ l.invariant.lanes;
      each = one_lane_more (λ k left. (rest : List ℕ) →
          Fits c.args.self (slice_index a k) (slice_index b k) →
          on_stack (stack_word c.args.self) (slice_index b k ∷ slice_index a k ∷ rest)
          ≡ Ok (left ∷ rest)) l.values l.lane left (omega arith) c.of.ensures l.invariant.each;
    }
