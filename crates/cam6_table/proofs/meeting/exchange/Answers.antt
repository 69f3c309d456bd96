use Rattle.cam6_table.proofs.TakenAlong.{all_left}
use Rattle.cam6_table.proofs.meeting.exchange.Goals as goal

pub returns : goal.returns
returns c = record {
  left = λ addresses left.
      let waits = c.wait.ensures in
      c.resume.ensures.left addresses
      (all_left addresses c.args.code.now c.args.flow.now c.args.places.now c.wait.new.places
      c.args.lanes.now left waits.remaining_by_lane waits.tops waits.other_remaining waits.other_tops);
}
