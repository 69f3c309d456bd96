use Rattle.std.proofs.Common.{◌≡◌, ◌∙◌, ◌==◌, slice_index, if◌then◌else◌, arith, bit_and}
use Rattle.std.proofs.lemmas.List.{length-set}
use Rattle.cam6_table.proofs.ChosenValues.{kept_if}
use Rattle.cam6_table.proofs.EachLane.{one_lane_more}
use Rattle.cam6_table.proofs.sets.those_equal.Goals as goal

pub loop-lane-preserved : goal.loop-lane-preserved
loop-lane-preserved c =
    let l = c.loop-lane in
    let set = c.args.set.now in
    let values = c.args.values.now in
    let others = c.args.others.now in
    let value = bit_and (slice_index set l.lane) c.in_if_equal.result in
    record {
      lanes = length-set l.those l.lane value ∙ l.invariant.lanes;
      each = one_lane_more (λ k v. v ≡ (if slice_index values k == slice_index others k then slice_index set k else 0))
          l.those l.lane value (omega arith)
          (kept_if (slice_index set l.lane) c.in_if_equal.result
          (slice_index values l.lane == slice_index others l.lane) (c.fits-set l.lane) c.in_if_equal.ensures)
          l.invariant.each;
    }
