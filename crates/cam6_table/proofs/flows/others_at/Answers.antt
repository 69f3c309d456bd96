use Rattle.std.proofs.Common.{◌∙◌, ◌==◌, ◌&&◌, slice_index, arith}
use Rattle.std.proofs.lemmas.List.{length-set}
use Rattle.cam6_table.specs.Internal.Sets.{IsOther}
use Rattle.cam6_table.proofs.EachLane.{one_lane_more}
use Rattle.cam6_table.proofs.flows.others_at.Goals as goal

pub loop-lane-preserved : goal.loop-lane-preserved
loop-lane-preserved c =
    let l = c.loop-lane in
    let set = c.args.set.now in
    let places = c.args.places.now in
    let value = c.mark_of.result in
    record {
      lanes = length-set l.those l.lane value ∙ l.invariant.lanes;
      each = one_lane_more (λ k v. IsOther v (slice_index set k)
          (slice_index places.remaining_by_lane k == c.args.remaining && slice_index places.tops k == c.args.top))
          l.those l.lane value (omega arith) c.mark_of.ensures l.invariant.each;
    }
