use Rattle.std.proofs.Common.{◌≡◌, ◌∙◌, ◌-◌, List, ℕ, slice_index, sym, ap, refl, arith}
use Rattle.cam6_table.specs.Internal.Lanes.{value_at}
use Rattle.cam6_table.proofs.Parting.{not_zero, is_zero, set_of_others, value_of_others}
use Rattle.cam6_table.proofs.Parting.{one_part, value_of_zeros}
use Rattle.cam6_table.proofs.Parting.{same_left, left_after_if}
use Rattle.cam6_table.proofs.Parting.{never_passes, goes_in, goes_past}
use Rattle.cam6_table.proofs.flows.part_at_if.Goals as goal

pub returns-then-distance-eq0-clause-left : goal.returns-then-distance-eq0-clause-left
returns-then-distance-eq0-clause-left c = λ next left.
    let addresses = c.args.addresses.now in
    let code = c.args.code.now in
    let flow = c.args.flow.now in
    let lanes = c.args.lanes.now in
    let len = lanes.stacks.len in
    let within = left.within in
    record {
      within = omega arith;
      holds = record { low = omega arith; high = omega arith; within = c.requires.holds.within };
      floors = left.floors;
      each = left.each;
      inside = λ lane below inside.
          let v = value_at lane lanes.stacks.rows (len - 1) in
          left_after_if (slice_index addresses lane) code flow.remaining (flow.remaining - 1) len lanes _
          lane (omega arith) (let low = (left.floors lane below inside).in_place in omega arith) refl refl (left.inside lane below inside) c.args.distance 0 next
          (never_passes v c.args.distance c.if-distance-eq0.true) (omega arith);
      outside = λ lane below outside. same_left _ _ _ _ lanes _ lane refl refl
          (left.outside lane below outside);
    }

pub returns-then-parts-eq0-clause-left : goal.returns-then-parts-eq0-clause-left
returns-then-parts-eq0-clause-left c = λ next left.
    let addresses = c.args.addresses.now in
    let code = c.args.code.now in
    let flow = c.args.flow.now in
    let lanes = c.args.lanes.now in
    let len = lanes.stacks.len in
    let within = left.within in
    record {
      within = omega arith;
      holds = record { low = omega arith; high = omega arith; within = c.requires.holds.within };
      floors = left.floors;
      each = left.each;
      inside = λ lane below inside.
          let v = value_at lane lanes.stacks.rows (len - 1) in
          let top : slice_index c.at_depth-top.result.now lane ≡ v =
          ap (λ (row : List ℕ). slice_index row lane) c.at_depth-top.ensures in
          let other = not_zero (slice_index flow.set.mask lane)
          (slice_index c.at_depth-top.result.now lane)
          (slice_index c.split-parts.result.zeros lane) (slice_index c.split-parts.result.others lane)
          (c.split-parts.ensures.zeros lane below) (c.split-parts.ensures.others lane below) inside
          (c.split-parts.ensures.none_zero c.if-parts-eq0.true lane below) in
          left_after_if (slice_index addresses lane) code flow.remaining (flow.remaining - 1) len lanes _
          lane (omega arith) (let low = (left.floors lane below inside).in_place in omega arith) refl refl (left.inside lane below inside) c.args.distance 0 next
          (goes_in v c.args.distance (λ is. other (top ∙ is))) (omega arith);
      outside = λ lane below outside. same_left _ _ _ _ lanes _ lane refl refl
          (left.outside lane below outside);
    }

pub returns-then-parts-eq0-2-clause-left : goal.returns-then-parts-eq0-2-clause-left
returns-then-parts-eq0-2-clause-left c = λ next left.
    let addresses = c.args.addresses.now in
    let code = c.args.code.now in
    let flow = c.args.flow.now in
    let lanes = c.args.lanes.now in
    let len = lanes.stacks.len in
    let within = left.within in
    let target = c.saturating_sub-target in
    record {
      within = omega arith;
      holds = record { low = omega arith; high = omega arith; within = c.requires.holds.within };
      floors = left.floors;
      each = left.each;
      inside = λ lane below inside.
          let v = value_at lane lanes.stacks.rows (len - 1) in
          let top : slice_index c.at_depth-top.result.now lane ≡ v =
          ap (λ (row : List ℕ). slice_index row lane) c.at_depth-top.ensures in
          let zero = is_zero (slice_index flow.set.mask lane)
          (slice_index c.at_depth-top.result.now lane)
          (slice_index c.split-parts.result.zeros lane) (slice_index c.split-parts.result.others lane)
          (c.split-parts.ensures.zeros lane below) (c.split-parts.ensures.others lane below) inside
          (c.split-parts.ensures.none_other c.if-parts-eq0-2.true lane below) in
          left_after_if (slice_index addresses lane) code flow.remaining target.result len lanes _ lane
          (omega arith) (let low = (left.floors lane below inside).in_place in omega arith) refl refl
          (left.inside lane below inside) c.args.distance
          c.args.distance next (goes_past v c.args.distance (sym top ∙ zero)) target.ensures;
      outside = λ lane below outside. same_left _ _ _ _ lanes _ lane refl refl
          (left.outside lane below outside);
    }

pub split_flow-requires-clause-parts : goal.split_flow-requires-clause-parts
split_flow-requires-clause-parts c = λ lane below.
    one_part (slice_index c.args.flow.now.set.mask lane)
    (slice_index c.at_depth-top.result.now lane) (slice_index c.split-parts.result.zeros lane)
    (slice_index c.split-parts.result.others lane) (c.split-parts.ensures.zeros lane below)
    (c.split-parts.ensures.others lane below) (c.requires.each lane below)

pub returns-clause-left : goal.returns-clause-left
returns-clause-left c = λ next left.
    let addresses = c.args.addresses.now in
    let code = c.args.code.now in
    let flow = c.args.flow.now in
    let lanes = c.args.lanes.now in
    let rows = lanes.stacks.rows in
    let len = lanes.stacks.len in
    let within = left.within in
    let target = c.saturating_sub-target in
    let set = λ (lane : ℕ). slice_index flow.set.mask lane in
    let top = λ (lane : ℕ). slice_index c.at_depth-top.result.now lane in
    let zeros = λ (lane : ℕ). slice_index c.split-parts.result.zeros lane in
    let others = λ (lane : ℕ). slice_index c.split-parts.result.others lane in
    let zeros_are = c.split-parts.ensures.zeros in
    let others_are = c.split-parts.ensures.others in
    c.split_flow.ensures.left (record {
      within = omega arith;
      floors = left.floors;
      zeros = λ lane below inside.
          let v = value_at lane rows (len - 1) in
          let is : top lane ≡ v = ap (λ (row : List ℕ). slice_index row lane) c.at_depth-top.ensures in
          let zero = value_of_zeros (set lane) (top lane) (zeros lane) (zeros_are lane below) inside in
          let part = one_part (set lane) (top lane) (zeros lane) (others lane) (zeros_are lane below)
          (others_are lane below) (left.each lane below) in
          let was = part.first_in inside in
          let low = (left.floors lane below was).in_place in
          left_after_if (slice_index addresses lane) code flow.remaining target.result len lanes _ lane
          (omega arith) (omega arith) refl refl (left.inside lane below was) c.args.distance
          c.args.distance next (goes_past v c.args.distance (sym is ∙ zero)) target.ensures;
      others = λ lane below inside.
          let v = value_at lane rows (len - 1) in
          let is : top lane ≡ v = ap (λ (row : List ℕ). slice_index row lane) c.at_depth-top.ensures in
          let other = value_of_others (set lane) (top lane) (zeros lane) (others lane)
          (zeros_are lane below) (others_are lane below) inside in
          let was = set_of_others (set lane) (top lane) (zeros lane) (others lane)
          (zeros_are lane below) (others_are lane below) inside in
          let low = (left.floors lane below was).in_place in
          left_after_if (slice_index addresses lane) code flow.remaining (flow.remaining - 1) len lanes _
          lane (omega arith) (omega arith) refl refl (left.inside lane below was) c.args.distance 0
          next (goes_in v c.args.distance (λ same. other (is ∙ same))) (omega arith);
      outside = λ lane below out.
          same_left (slice_index addresses lane) code _ _ lanes _ lane refl refl
          (left.outside lane below out);
    })
