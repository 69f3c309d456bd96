use Rattle.std.proofs.Common.{◌≡◌, ◌∙◌, ◌≤◌, ◌+◌, slice_index, arith}
use Rattle.std.proofs.lemmas.List.{length-set}
use Rattle.cam6_table.specs.Internal.Sets.{IsIn, IsOut}
use Rattle.cam6_table.proofs.EachLane.{one_lane_more}
use Rattle.cam6_table.proofs.sets.lowered.Goals as goal

pub loop-lane-preserved : goal.loop-lane-preserved
loop-lane-preserved c =
    let l = c.loop-lane in
    let set = c.args.set.now in
    let value = c.lower_in.result in
    record {
      lanes = length-set l.rests l.lane value ∙ l.invariant.lanes;
      inside = one_lane_more (λ k v. IsIn set k → c.args.by ≤ slice_index c.args.values.now k → v + c.args.by ≡ slice_index c.args.values.now k)
          l.rests l.lane value (omega arith) c.lower_in.ensures.inside l.invariant.inside;
      outside = one_lane_more (λ k v. IsOut set k → v ≡ slice_index c.args.values.now k)
          l.rests l.lane value (omega arith) c.lower_in.ensures.outside l.invariant.outside;
    }
