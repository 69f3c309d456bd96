use Rattle.std.proofs.Common.{◌≡◌, ◌∙◌, ◌<◌, ◌≤◌, slice_index, arith}
use Rattle.std.proofs.lemmas.List.{length-set}
use Rattle.cam6_table.specs.Internal.Sets.{IsIn, IsOut}
use Rattle.cam6_table.proofs.EachLane.{one_lane_more}
use Rattle.cam6_table.proofs.sets.chosen_from.Goals as goal

pub loop-lane-preserved : goal.loop-lane-preserved
loop-lane-preserved c =
    let l = c.loop-lane in
    let set = c.args.set.now in
    let value = c.choose_from.result in
    record {
      lanes = length-set l.values l.lane value ∙ l.invariant.lanes;
      inside = one_lane_more (λ k v. IsIn set k → slice_index c.args.ends.now k ≤ c.args.row → v ≡ slice_index c.args.new.now k)
          l.values l.lane value (omega arith) c.choose_from.ensures.inside l.invariant.inside;
      under = one_lane_more (λ k v. IsIn set k → c.args.row < slice_index c.args.ends.now k → v ≡ slice_index c.args.old.now k)
          l.values l.lane value (omega arith) c.choose_from.ensures.under l.invariant.under;
      outside = one_lane_more (λ k v. IsOut set k → v ≡ slice_index c.args.old.now k)
          l.values l.lane value (omega arith) c.choose_from.ensures.outside l.invariant.outside;
    }
