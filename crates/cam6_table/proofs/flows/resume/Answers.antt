use Rattle.std.proofs.Common.{slice_index, refl, arith}
use Rattle.cam6_table.proofs.Parting.{remaining_there, top_there, same_left, left_there}
use Rattle.cam6_table.proofs.flows.resume.Goals as goal

pub returns : goal.returns
returns c = record {
  left = λ addresses left.
      let code = c.args.code.now in
      let places = c.args.places.now in
      let lanes = c.args.lanes.now in
      let those = c.others_at-those.ensures in
      c.new_flow.ensures.left addresses code places (record {
        within = let least = c.min-remaining in omega arith;
        each = λ lane below. (those lane below).each;
        inside = λ lane below inside.
            let there = (those lane below).holds_in inside in
            let b = slice_index places.remaining_by_lane lane in
            let t = slice_index places.tops lane in
            let remaining = remaining_there b t _ _ there in
            let top = top_there b t _ _ there in
            let place = (left lane below).place in
            let least = c.min-remaining in
            let from = c.from in
            let to = c.from-lanes in
            left_there (slice_index addresses lane) code b t _ _ _ lane (omega arith) (omega arith)
            (same_left _ _ _ _ lanes _ lane refl refl (left lane below));
        outside = λ lane below outside.
            same_left _ _ _ _ lanes _ lane refl refl (left lane below);
      });
}
