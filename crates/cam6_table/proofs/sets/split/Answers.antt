use Rattle.std.proofs.Common.{◌≡◌, ◌∙◌, ◌==◌, ◌≤◌, slice_index, if◌then◌else◌, arith, bit_and, bit_or, ◌-◌}
use Rattle.std.proofs.lemmas.List.{length-set}
use Rattle.std.proofs.lemmas.Nat.{le_or_l, le_or_r}
use Rattle.cam6_table.proofs.ChosenValues.{kept_if, kept_unless}
use Rattle.cam6_table.proofs.EachLane.{one_lane_more}
use Rattle.cam6_table.proofs.sets.split.Goals as goal

pub loop-lane-preserved : goal.loop-lane-preserved
loop-lane-preserved c =
    let l = c.loop-lane in
    let set = c.args.set.now in
    let values = c.args.values.now in
    let here = c.in_if_equal-here.result in
    let zero = bit_and (slice_index set l.lane) here in
    let other = bit_and (slice_index set l.lane) (65535 - here) in
    let more = le_or_l l.some_zeros zero in
    let more_other = le_or_l l.some_others other in
    record {
      lanes = length-set l.zeros l.lane zero ∙ l.invariant.lanes;
      other_lanes = length-set l.others l.lane other ∙ l.invariant.other_lanes;
      each = one_lane_more (λ k v. v ≡ (if slice_index values k == 0 then slice_index set k else 0)) l.zeros
          l.lane zero (omega arith)
          (kept_if (slice_index set l.lane) here (slice_index values l.lane == 0)
          (c.fits-set l.lane) c.in_if_equal-here.ensures) l.invariant.each;
      each_other = one_lane_more (λ k v. v ≡ (if slice_index values k == 0 then 0 else slice_index set k)) l.others
          l.lane other (omega arith)
          (kept_unless (slice_index set l.lane) here (slice_index values l.lane == 0)
          (c.fits-set l.lane) c.in_if_equal-here.ensures) l.invariant.each_other;
      most = one_lane_more (λ k v. v ≤ bit_or l.some_zeros zero) l.zeros l.lane zero (omega arith)
          (le_or_r l.some_zeros zero)
          (λ k below. let before = l.invariant.most k below in omega arith);
      most_other = one_lane_more (λ k v. v ≤ bit_or l.some_others other) l.others l.lane other
          (omega arith) (le_or_r l.some_others other)
          (λ k below. let before = l.invariant.most_other k below in omega arith);
    }
