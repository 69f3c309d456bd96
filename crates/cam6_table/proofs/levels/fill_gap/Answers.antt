use Rattle.std.proofs.Common.{◌∙◌, ◌-◌, ◌++◌, ap, refl, arith, inl, inr}
use Rattle.std.proofs.lemmas.Bool.{cases_eq}
use Rattle.std.proofs.lemmas.List.{get_or-set_same, get_or-set_other}
use Rattle.cam6_table.specs.Internal.Lanes.{column, value_at, floor_of, end_of, width_of}
use Rattle.cam6_table.proofs.Gaps.{any_width, dug_stack, lies_so}
use Rattle.cam6_table.proofs.Moving.{kept_by, untouched_by}
use Rattle.cam6_table.proofs.levels.fill_gap.Goals as goal

pub returns-clause-here : goal.returns-clause-here
returns-clause-here c = λ top stands.
    let lanes = c.args.lanes.now in
    let lane = c.args.lane in
    let new = c.fill.new.self in
    let floor = floor_of lane lanes.floors in
    let end = end_of lane lanes.floors in
    let width = width_of lane lanes.floors in
    let from = c.max-from.result in
    let after = c.width_after.result in
    let deep = stands.deep in
    let begins = stands.begins in
    let in_place = stands.in_place in
    let high = stands.high in
    let within = stands.within in
    let most = c.max-from.ensures in
    let fill = c.fill.ensures in
    let to = c.from-3.ensures in
    let last = c.from-4.ensures in
    let end_is = get_or-set_same lanes.floors.ends lane from 0 (omega arith) in
    let width_is = get_or-set_same lanes.floors.widths lane after 0 (omega arith) in
    kept_by lanes new _ lane top top
    (record {
      deep = omega arith;
      begins = omega arith;
      in_place = omega arith;
      high = high;
      within = within;
    })
    (lies_so lane top floor from after new.rows _ refl end_is width_is ∙
    elim (cases_eq from floor) [
      | inl is ↦ any_width lane floor from width after new.rows (column lane new.rows from top) is
      | inr other ↦ ap (λ w. column lane new.rows from top ++
          column lane new.rows (floor - w) (from - w)) (c.width_after.ensures.same other)
    ] ∙
    dug_stack lane floor width from end top new.rows lanes.stacks.rows deep (omega arith)
    (omega arith) in_place
    (λ row low less. fill.filled row (omega arith) (omega (arith, less)) ∙
    ap (λ w. value_at lane lanes.stacks.rows (row - w)) c.from-2.ensures)
    (λ row less. fill.below row (omega (arith, less)))
    (λ row more. fill.above row (omega arith)))

pub returns-clause-others : goal.returns-clause-others
returns-clause-others c = λ other below apart.
    let lanes = c.args.lanes.now in
    untouched_by lanes c.fill.new.self _ other refl
    (get_or-set_other lanes.floors.ends c.args.lane other c.max-from.result 0 apart)
    (get_or-set_other lanes.floors.widths c.args.lane other c.width_after.result 0 apart)
    (λ row. c.fill.ensures.others other row apart)
