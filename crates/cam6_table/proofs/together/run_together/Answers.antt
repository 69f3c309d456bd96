use Rattle.cam6_table.proofs.TakenAlong.{all_left}
use Rattle.cam6_table.proofs.together.run_together.Goals as goal

pub returns : goal.returns
returns c =
    let waits = c.wait.ensures in
    record {
      left = all_left c.args.addresses.now c.args.code.now c.run_flows.new.flow
          c.run_flows.new.places c.wait.new.places c.run_flows.new.lanes c.run_flows.ensures.left
          waits.remaining_by_lane waits.tops waits.other_remaining waits.other_tops;
    }
