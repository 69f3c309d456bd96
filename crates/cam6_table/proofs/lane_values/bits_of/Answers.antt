use Rattle.std.proofs.Common.{◌≡◌, ◌∙◌, slice_index, arith}
use Rattle.std.proofs.lemmas.List.{length-set}
use Rattle.cam6_planes.specs.Row.{bit_number}
use Rattle.cam6_wiring.specs.Seen.{shown}
use Rattle.cam6_table.proofs.EachLane.{one_lane_more}
use Rattle.cam6_table.proofs.lane_values.bits_of.Goals as goal

pub loop-lane-preserved : goal.loop-lane-preserved
loop-lane-preserved c =
    let l = c.loop-lane in
    let bit = c.bit_of.result in
    record {
      lanes = length-set l.bits l.lane bit ∙ l.invariant.lanes;
      each = one_lane_more
          (λ k bit. bit ≡ bit_number (shown (slice_index c.args.addresses.now k) c.args.line))
          l.bits l.lane bit (omega arith) c.bit_of.ensures l.invariant.each;
    }
