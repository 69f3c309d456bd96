use Rattle.std.proofs.Common.{◌≡◌, ◌<◌, ◌≤◌, ◌+◌, slice_index, refl, arith, inl, inr}
use Rattle.std.proofs.lemmas.Bool.{cases_lt}
use Rattle.cam6_table.specs.Internal.Lanes.{end_of}
use Rattle.cam6_table.proofs.LaneOutputs.{dropped_on}
use Rattle.cam6_table.proofs.Moving.{untouched_by}
use Rattle.cam6_table.proofs.Parting.{stands_in}
use Rattle.cam6_table.proofs.straight.drop_top.Goals as goal

pub returns-then-len-span-2 : goal.returns-then-len-span-2
returns-then-len-span-2 c = λ addresses.
    let lanes = c.args.lanes.now in
    let len = lanes.stacks.len in
    let span = c.args.span.now in
    let high = c.requires.holds.high in
    let low = c.requires.holds.low in
    let limited = c.limited-ends.ensures in
    record {
      holds = record { low = omega arith; high = omega arith; within = c.requires.holds.within };
      narrows = record { floor = omega arith; bottom = refl; room = refl };
      floors = λ lane below inside.
          let is = c.requires.floors lane below inside in
          let begins = is.begins in
          let in_place = is.in_place in
          let bottom = is.bottom in
          elim (cases_lt (end_of lane lanes.floors) len) [
            | inl less ↦ (let end = limited.low lane below inside (omega arith) in
                record {
                  deep = is.deep;
                  begins = omega arith;
                  in_place = omega (arith, less, end);
                  bottom = bottom;
                  full = is.full;
                })
            | inr most ↦ (let end = limited.high lane below inside (omega arith) in
                record {
                  deep = is.deep;
                  begins = omega arith;
                  in_place = omega arith;
                  bottom = bottom;
                  full = is.full;
                })
          ];
      each = λ lane below inside.
          let is = c.requires.floors lane below inside in
          let bottom = is.bottom in
          let same : end_of lane lanes.floors < len →
          slice_index c.limited-ends.result lane ≡ end_of lane lanes.floors =
          (λ less. limited.low lane below inside (omega (arith, less))) in
          let one : len ≤ end_of lane lanes.floors → slice_index c.limited-ends.result lane + 1 ≡ len =
          (λ most. let end = limited.high lane below inside (omega (arith, most)) in omega arith) in
          dropped_on lane len lanes _ (stands_in span len lane lanes.floors c.requires.holds is)
          (omega arith) refl refl same one;
      others = λ lane below outside.
          untouched_by lanes _ _ lane refl (limited.outside lane below outside) refl
          (λ row. refl);
    }

pub returns-else-len-span-2 : goal.returns-else-len-span-2
returns-else-len-span-2 c = λ addresses.
    let lanes = c.args.lanes.now in
    let len = lanes.stacks.len in
    let span = c.args.span.now in
    let high = c.requires.holds.high in
    record {
      holds = record { low = omega arith; high = omega arith; within = c.requires.holds.within };
      narrows = record { floor = omega arith; bottom = refl; room = refl };
      floors = c.requires.floors;
      each = λ lane below inside.
          let is = c.requires.floors lane below inside in
          let in_place = is.in_place in
          let bottom = is.bottom in
          dropped_on lane len lanes lanes.floors
          (stands_in span len lane lanes.floors c.requires.holds is) (omega arith) refl refl
          (λ less. refl) (λ most. absurd (omega (arith, most)));
      others = λ lane below outside.
          untouched_by lanes _ _ lane refl refl refl (λ row. refl);
    }
