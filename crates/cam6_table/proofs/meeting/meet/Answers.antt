use Rattle.std.proofs.Common.{ℕ, slice_index, refl, inl, inr}
use Rattle.cam6_table.proofs.Parting.{kept_left, same_left}
use Rattle.cam6_table.proofs.TakenAlong.{untouched_left, in_either, out_of_set, out_of_those}
use Rattle.cam6_table.proofs.TakenAlong.{each_both, not_among, others_left}
use Rattle.cam6_table.proofs.meeting.meet.Goals as goal

pub level-top-requires-clause-apart : goal.level-top-requires-clause-apart
level-top-requires-clause-apart c = λ lane below inside.
    let other = c.others_at-those.ensures lane below in
    not_among (slice_index c.args.flow.now.set.mask lane) (slice_index c.others_at-those.result lane)
    other.each other.outside inside

pub returns : goal.returns
returns c = record {
  left = λ addresses code left.
      let places = c.args.places.now in
      let lanes = c.args.lanes.now in
      let moved = c.level-top.new.lanes in
      let level = c.level-top.ensures in
      let set = λ (lane : ℕ). slice_index c.args.flow.now.set.mask lane in
      let those = λ (lane : ℕ). slice_index c.others_at-those.result lane in
      let both = λ (lane : ℕ). slice_index c.put_in-both.result lane in
      let put = c.put_in-both.ensures in
      let others = others_left addresses code c.args.flow.now places lanes left c.args.next.remaining
      c.args.next.top c.from-there.result c.others_at-those.result c.requires.here
      c.from-there.ensures c.others_at-those.ensures in
      c.new_flow.ensures.left addresses code places (record {
        within = left.within;
        each = λ lane below. each_both (set lane) (those lane) (both lane) (left.each lane below)
            (put.inside lane below) (put.outside lane below)
            (c.others_at-those.ensures lane below).each;
        inside = λ lane below inside.
            elim (in_either (set lane) (those lane) (both lane) (left.each lane below)
            (put.inside lane below) (put.outside lane below) inside) [
              | inl first ↦ (let is = left.inside lane below first in
                  same_left _ _ _ _ moved _ lane refl refl
                  (kept_left (slice_index addresses lane) code _ _ lanes _ moved lane
                  (level.first lane below first is.stands) is))
              | inr second ↦ (let is = others lane below second in
                  same_left _ _ _ _ moved _ lane refl refl
                  (kept_left (slice_index addresses lane) code _ _ lanes _ moved lane
                  (level.second lane below second is.stands) is))
            ];
        outside = λ lane below none.
            let out = out_of_set (set lane) (those lane) (both lane) (left.each lane below)
            (put.inside lane below) (put.outside lane below) none in
            same_left _ _ _ _ moved _ lane refl refl
            (untouched_left (slice_index addresses lane) code _ _ lanes moved lane
            (level.others lane below out (out_of_those (set lane) (those lane) (both lane)
            (left.each lane below) (put.inside lane below) (put.outside lane below) none))
            (left.outside lane below out));
      });
}
