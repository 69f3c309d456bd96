use Rattle.std.proofs.Common.{◌∙◌, ◌==◌, slice_index, arith, refl, inl, inr}
use Rattle.std.proofs.lemmas.Bool.{cases_eq}
use Rattle.cam6_table.specs.Internal.Lanes.{floor_of, end_of, width_of}
use Rattle.cam6_table.proofs.Gaps.{cut_stack}
use Rattle.cam6_table.proofs.Moving.{kept_by, kept_untouched, untouched_by}
use Rattle.cam6_table.proofs.Parting.{if_same, if_other, if_none}
use Rattle.cam6_table.proofs.levels.begin_gaps.Goals as goal

pub returns-clause-inside : goal.returns-clause-inside
returns-clause-inside c = λ lane below inside stands.
    let lanes = c.args.lanes.now in
    let floor = floor_of lane lanes.floors in
    let end = end_of lane lanes.floors in
    let width = width_of lane lanes.floors in
    let deep = stands.deep in
    let begins = stands.begins in
    let in_place = stands.in_place in
    let high = stands.high in
    let set = slice_index c.args.set.now lane in
    let those = c.those_equal-those.ensures lane below in
    elim (cases_eq floor end) [
      | inl same ↦ (let is = those ∙ if_same floor end set 0 same ∙ inside in
          let ends = c.put_in-ends.ensures.inside lane below is in
          let widths = c.put_in-widths.ensures.inside lane below is in
          kept_by lanes lanes.stacks _ lane c.args.top c.args.top
          (record {
            deep = omega arith;
            begins = omega arith;
            in_place = omega arith;
            high = high;
            within = c.requires.top;
          })
          (cut_stack lane floor end width c.args.top (slice_index c.put_in-ends.result lane)
          (slice_index c.put_in-widths.result lane) lanes.stacks.rows same ends widths))
      | inr other ↦ (let is = those ∙ if_other floor end set 0 other in
          kept_untouched lanes _ lane c.args.top
          (untouched_by lanes lanes.stacks _ lane refl (c.put_in-ends.ensures.outside lane below is)
          (c.put_in-widths.ensures.outside lane below is) (λ row. refl)) stands)
    ]

pub returns-clause-outside : goal.returns-clause-outside
returns-clause-outside c = λ lane below outside.
    let lanes = c.args.lanes.now in
    let is = c.those_equal-those.ensures lane below ∙
    if_none (floor_of lane lanes.floors == end_of lane lanes.floors) (slice_index c.args.set.now lane)
    outside in
    untouched_by lanes lanes.stacks _ lane refl (c.put_in-ends.ensures.outside lane below is)
    (c.put_in-widths.ensures.outside lane below is) (λ row. refl)
