use Rattle.std.proofs.Common.{◌≡◌, ◌∙◌, ◌≤◌, slice_index, arith}
use Rattle.std.proofs.lemmas.List.{length-set}
use Rattle.cam6_table.specs.Internal.Sets.{IsIn, IsOut}
use Rattle.cam6_table.proofs.EachLane.{one_lane_more}
use Rattle.cam6_table.proofs.sets.limited.Goals as goal

pub loop-lane-preserved : goal.loop-lane-preserved
loop-lane-preserved c =
    let l = c.loop-lane in
    let set = c.args.set.now in
    let value = c.limit_in.result in
    record {
      lanes = length-set l.least l.lane value ∙ l.invariant.lanes;
      low = one_lane_more (λ k v. IsIn set k → slice_index c.args.values.now k ≤ c.args.limit → v ≡ slice_index c.args.values.now k)
          l.least l.lane value (omega arith) c.limit_in.ensures.low l.invariant.low;
      high = one_lane_more (λ k v. IsIn set k → c.args.limit ≤ slice_index c.args.values.now k → v ≡ c.args.limit)
          l.least l.lane value (omega arith) c.limit_in.ensures.high l.invariant.high;
      outside = one_lane_more (λ k v. IsOut set k → v ≡ slice_index c.args.values.now k)
          l.least l.lane value (omega arith) c.limit_in.ensures.outside l.invariant.outside;
    }
