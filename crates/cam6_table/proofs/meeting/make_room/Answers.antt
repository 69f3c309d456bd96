use Rattle.std.proofs.Common.{slice_index, refl}
use Rattle.cam6_table.proofs.Moving.{kept_then, untouched_then}
use Rattle.cam6_table.proofs.Parting.{kept_left, same_left}
use Rattle.cam6_table.proofs.TakenAlong.{untouched_left}
use Rattle.cam6_table.proofs.meeting.make_room.Goals as goal

pub returns : goal.returns
returns c = record {
  left = λ addresses code places left.
      let lanes = c.args.lanes.now in
      let dug = c.fill_gaps.new.lanes in
      let moved = c.lower_stacks.new.lanes in
      c.new_flow.ensures.left addresses code places (record {
        within = left.within;
        each = left.each;
        inside = λ lane below inside.
            let is = left.inside lane below inside in
            let first = c.fill_gaps.ensures.inside lane _ below inside is.stands in
            same_left _ _ _ _ moved _ lane refl refl
            (kept_left (slice_index addresses lane) code _ _ lanes _ moved lane
            (kept_then lanes dug moved lane _ _ _ first
            (c.lower_stacks.ensures.inside lane below inside first.stands)) is);
        outside = λ lane below outside.
            same_left _ _ _ _ moved _ lane refl refl
            (untouched_left (slice_index addresses lane) code _ _ lanes moved lane
            (untouched_then lanes dug moved lane (c.fill_gaps.ensures.outside lane below outside)
            (c.lower_stacks.ensures.outside lane below outside)) (left.outside lane below outside));
      });
}
