use Rattle.std.proofs.Common.{◌<◌, ℕ, slice_index, refl, arith, inl, inr}
use Rattle.cam6_table.specs.declared.lane_values.TheConstants.{LANES}
use Rattle.cam6_table.specs.Internal.Lanes.{IsLeft}
use Rattle.cam6_table.specs.Internal.Sets.{IsIn}
use Rattle.cam6_table.proofs.Parting.{kept_left, same_left, left_there}
use Rattle.cam6_table.proofs.StepByStep.{spanned_within}
use Rattle.cam6_table.proofs.TakenAlong.{untouched_left}
use Rattle.cam6_table.proofs.flows.split_flow.Goals as goal

pub returns-then-remaining-target-clause-left : goal.returns-then-remaining-target-clause-left
returns-then-remaining-target-clause-left c = λ split.
    let addresses = c.args.addresses.now in
    let code = c.args.code.now in
    let lanes = c.args.lanes.now in
    let run = c.run_straight-remaining in
    let mid = run.new.lanes in
    let within = split.within in
    let parts = c.requires.parts in
    let wait = c.wait.ensures in
    record {
      within = omega arith;
      holds = run.ensures.holds;
      floors = run.ensures.floors;
      each = λ lane below. (parts lane below).each_second;
      inside = λ lane below inside.
          run.ensures.left.inside lane below inside (split.others lane below inside);
      outside = λ lane below out.
          elim ((parts lane below).each) [
            | inl inside ↦ elim ((parts lane below).one inside) [
              | inl zero ↦
                  left_there (slice_index addresses lane) code _ _ _ _ mid lane
                  (wait.remaining_by_lane lane below zero) (wait.tops lane below zero)
                  (untouched_left (slice_index addresses lane) code _ _ lanes mid lane
                  (run.ensures.left.outside lane below out) (split.zeros lane below zero))
              | inr other ↦ absurd (omega (arith, out, other))
            ]
            | inr none ↦ (let first = (parts lane below).none_first none in
                left_there (slice_index addresses lane) code _ _ _ _ mid lane
                (wait.other_remaining lane below first) (wait.other_tops lane below first)
                (untouched_left (slice_index addresses lane) code _ _ lanes mid lane
                (run.ensures.left.outside lane below out) (split.outside lane below none)))
          ];
    }

pub returns-then-lanes-there-clause-left : goal.returns-then-lanes-there-clause-left
returns-then-lanes-there-clause-left c = λ split.
    let addresses = c.args.addresses.now in
    let code = c.args.code.now in
    let flow = c.args.flow.now in
    let lanes = c.args.lanes.now in
    let run = c.run_straight-remaining in
    let mid = run.new.lanes in
    let level = c.level-top.ensures in
    let moved = c.level-top.new.lanes in
    let within = split.within in
    let parts = c.requires.parts in
    let zeros : (lane : ℕ) → lane < LANES → IsIn c.args.parts.zeros lane →
    IsLeft (slice_index addresses lane) code run.result c.level-top.result _ lane =
    (λ lane below zero.
    let is = left_there (slice_index addresses lane) code _ _ _ _ mid lane (omega arith) refl
    (untouched_left (slice_index addresses lane) code _ _ lanes mid lane
    (run.ensures.left.outside lane below ((parts lane below).first_only zero))
    (split.zeros lane below zero)) in
    same_left _ _ _ _ moved _ lane refl refl
    (kept_left (slice_index addresses lane) code _ _ mid _ moved lane
    (level.second lane below zero is.stands) is)) in
    let others : (lane : ℕ) → lane < LANES → IsIn c.args.parts.others lane →
    IsLeft (slice_index addresses lane) code run.result c.level-top.result _ lane =
    (λ lane below other.
    let is = run.ensures.left.inside lane below other (split.others lane below other) in
    same_left _ _ _ _ moved _ lane refl refl
    (kept_left (slice_index addresses lane) code _ _ mid _ moved lane
    (level.first lane below other is.stands) is)) in
    record {
      within = omega arith;
      holds = c.span_of-flow.ensures.holds;
      floors = λ lane below inside.
          elim ((parts lane below).one inside) [
            | inl zero ↦ c.span_of-flow.ensures.each lane below inside (zeros lane below zero).stands
            | inr other ↦ c.span_of-flow.ensures.each lane below inside (others lane below other).stands
          ];
      each = λ lane below. (parts lane below).each;
      inside = λ lane below inside.
          elim ((parts lane below).one inside) [
            | inl zero ↦ zeros lane below zero
            | inr other ↦ others lane below other
          ];
      outside = λ lane below out.
          same_left _ _ _ _ moved _ lane refl refl
          (untouched_left (slice_index addresses lane) code _ _ mid moved lane
          (level.others lane below ((parts lane below).none_second out)
          ((parts lane below).none_first out))
          (untouched_left (slice_index addresses lane) code _ _ lanes mid lane
          (run.ensures.left.outside lane below ((parts lane below).none_second out))
          (split.outside lane below out)));
    }

pub returns-else-lanes-there-clause-left : goal.returns-else-lanes-there-clause-left
returns-else-lanes-there-clause-left c = λ split.
    let addresses = c.args.addresses.now in
    let code = c.args.code.now in
    let flow = c.args.flow.now in
    let lanes = c.args.lanes.now in
    let run = c.run_straight-remaining in
    let mid = run.new.lanes in
    let within = split.within in
    let parts = c.requires.parts in
    let narrows = run.ensures.narrows in
    let low = c.requires.holds.low in
    let high = c.requires.holds.high in
    record {
      within = omega arith;
      holds = record { low = omega arith; high = omega arith; within = c.requires.holds.within };
      floors = λ lane below inside.
          elim ((parts lane below).one inside) [
            | inl zero ↦ (run.ensures.left.outside lane below ((parts lane below).first_only zero)).spanned
                flow.span (split.floors lane below inside)
            | inr other ↦ spanned_within flow.span run.new.span lane mid.floors narrows
                (run.ensures.floors lane below other)
          ];
      each = λ lane below. (parts lane below).each;
      inside = λ lane below inside.
          elim ((parts lane below).one inside) [
            | inl zero ↦
                left_there (slice_index addresses lane) code _ _ _ _ mid lane (omega arith) (omega arith)
                (untouched_left (slice_index addresses lane) code _ _ lanes mid lane
                (run.ensures.left.outside lane below ((parts lane below).first_only zero))
                (split.zeros lane below zero))
            | inr other ↦ run.ensures.left.inside lane below other (split.others lane below other)
          ];
      outside = λ lane below out.
          untouched_left (slice_index addresses lane) code _ _ lanes mid lane
          (run.ensures.left.outside lane below ((parts lane below).none_second out))
          (split.outside lane below out);
    }
