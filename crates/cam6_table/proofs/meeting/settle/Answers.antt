use Rattle.std.proofs.Common.{slice_index, refl}
use Rattle.cam6_table.proofs.Parting.{kept_left, left_there}
use Rattle.cam6_table.proofs.TakenAlong.{untouched_left}
use Rattle.cam6_table.proofs.meeting.settle.Goals as goal

pub returns-then-ne : goal.returns-then-ne
returns-then-ne c = record {
  left = λ addresses code places left.
      c.new_flow.ensures.left addresses code places (record {
        within = left.within;
        each = left.each;
        inside = left.inside;
        outside = left.outside;
      });
}

pub returns-then-top-span : goal.returns-then-top-span
returns-then-top-span c = record {
  left = λ addresses code places left.
      let lanes = c.args.lanes.now in
      let dug = c.fill_gaps.new.lanes in
      c.new_flow-then-top-span.ensures.left addresses code places (record {
        within = left.within;
        each = left.each;
        inside = λ lane below inside.
            let is = left.inside lane below inside in
            left_there (slice_index addresses lane) code _ _ _ _ dug lane refl c.fill_gaps.ensures.len
            (kept_left (slice_index addresses lane) code _ _ lanes _ dug lane
            (c.fill_gaps.ensures.inside lane _ below inside is.stands) is);
        outside = λ lane below outside.
            untouched_left (slice_index addresses lane) code _ _ lanes dug lane
            (c.fill_gaps.ensures.outside lane below outside) (left.outside lane below outside);
      });
}
