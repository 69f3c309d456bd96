use Rattle.std.proofs.Common.{◌≡◌, ◌∙◌, ◌%◌, slice_index, refl, arith}
use Rattle.std.proofs.lemmas.List.{length-set}
use Rattle.cam6_table.proofs.EachLane.{one_lane_more}
use Rattle.cam6_table.proofs.lane_values.lowest_bits.Goals as goal

pub loop-lane-preserved : goal.loop-lane-preserved
loop-lane-preserved c =
    let l = c.loop-lane in
    let values = c.args.values.now in
    record {
      lanes = length-set l.bits l.lane (slice_index values l.lane % 2) ∙ l.invariant.lanes;
      each = one_lane_more (λ k bit. bit ≡ slice_index values k % 2) l.bits l.lane
          (slice_index values l.lane % 2) (omega arith) refl l.invariant.each;
    }
