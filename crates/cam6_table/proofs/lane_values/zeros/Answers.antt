use Rattle.std.proofs.Common.{◌≡◌, ◌∙◌, ◌==◌, slice_index, arith, rules}
use Rattle.std.proofs.lemmas.List.{length-set}
use Rattle.cam6_planes.specs.Row.{bit_number}
use Rattle.cam6_table.proofs.EachLane.{one_lane_more}
use Rattle.cam6_table.proofs.lane_values.zeros.Goals as goal

pub loop-lane-preserved : goal.loop-lane-preserved
loop-lane-preserved c =
    let l = c.loop-lane in
    let values = c.args.values.now in
    let zero = c.from.result in
    record {
      lanes = length-set l.zeros l.lane zero ∙ l.invariant.lanes;
      each = one_lane_more (λ k bit. bit ≡ bit_number (slice_index values k == 0)) l.zeros
          l.lane zero (omega arith) (search (rules, c.from.ensures)) l.invariant.each;
    }
