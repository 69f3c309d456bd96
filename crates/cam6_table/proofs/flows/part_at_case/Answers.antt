use Rattle.std.proofs.Common.{◌≡◌, ◌-◌, List, ℕ, slice_index, ap, subst, refl, arith, inl, inr}
use Rattle.cam6_table.specs.Internal.Lanes.{value_at, LeadsTo}
use Rattle.cam6_table.proofs.Parting.{same_left, left_there, left_in_case}
use Rattle.cam6_table.proofs.flows.part_at_case.Goals as goal

pub returns-clause-left : goal.returns-clause-left
returns-clause-left c = λ addresses left.
    let flow = c.args.flow.now in
    let code = c.args.code.now in
    let lanes = c.args.lanes.now in
    let rows = lanes.stacks.rows in
    let len = lanes.stacks.len in
    let found = c.in_ok-remaining_by_lane.ensures in
    let none = c.in_all.ensures in
    record {
      within = omega arith;
      holds = record { low = omega arith; high = omega arith; within = c.requires.holds.within };
      floors = λ lane below inside. absurd (let empty = none lane below in omega arith);
      each = λ lane below. inr (none lane below);
      inside = λ lane below inside. absurd (let empty = none lane below in omega arith);
      outside = λ lane below outside.
          let v = value_at lane rows (len - 1) in
          let is : slice_index c.at_depth-indices.result.now lane ≡ v =
          ap (λ (row : List ℕ). slice_index row lane) c.at_depth-indices.ensures in
          let address = slice_index addresses lane in
          elim (left.each lane below) [
            | inl inside ↦ (
                let index = found.below lane below inside in
                let low = (left.floors lane below inside).in_place in
                left_there address code (slice_index c.in_ok-remaining_by_lane.remaining_by_lane lane) (len - 1) _ _ _ lane refl
                (c.put_in-places.ensures.inside lane below inside)
                (left_in_case address code flow.remaining (slice_index c.in_ok-remaining_by_lane.remaining_by_lane lane) len lanes _ lane (omega arith)
                (omega arith) refl refl (left.inside lane below inside) c.args.count c.requires.next
                (omega (arith, index, is)) (found.within lane below inside)
                (subst (λ w. LeadsTo code (flow.remaining - 1) w (slice_index c.in_ok-remaining_by_lane.remaining_by_lane lane)) is
                (found.found lane below inside))))
            | inr out ↦
                left_there address code _ _ _ _ _ lane (found.others lane below out)
                (c.put_in-places.ensures.outside lane below out)
                (same_left address code _ _ lanes _ lane refl refl (left.outside lane below out))
          ];
    }
