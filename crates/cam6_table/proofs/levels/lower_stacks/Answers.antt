use Rattle.std.proofs.Common.{◌≡◌, ◌∙◌, ◌+◌, ◌-◌, slice_index, ap, arith}
use Rattle.cam6_table.specs.Internal.Lanes.{floor_of, end_of, width_of, value_at}
use Rattle.cam6_table.proofs.Gaps.{moved_stack}
use Rattle.cam6_table.proofs.Moving.{kept_by, untouched_by}
use Rattle.cam6_table.proofs.levels.lower_stacks.Goals as goal

pub returns-clause-inside : goal.returns-clause-inside
returns-clause-inside c = λ lane below inside stands.
    let lanes = c.args.lanes.now in
    let new = c.move_down.new.stacks in
    let deep = stands.deep in
    let begins = stands.begins in
    let in_place = stands.in_place in
    let high = stands.high in
    let floor = floor_of lane lanes.floors in
    let end = end_of lane lanes.floors in
    let width = width_of lane lanes.floors in
    let wide = c.requires.wide lane below inside in
    let down = c.requires.down in
    let from = c.requires.from in
    let by = c.args.from - c.args.to in
    let rows = c.lowered-rows.ensures.inside lane below inside (omega arith) in
    let ends = c.lowered-ends.ensures.inside lane below inside (omega arith) in
    let widths = c.lowered-widths.ensures.inside lane below inside (omega arith) in
    let after = slice_index c.lowered-ends.result lane in
    kept_by lanes new _ lane c.args.from c.args.to
    (record {
      deep = omega arith;
      begins = omega arith;
      in_place = omega arith;
      high = omega arith;
      within = omega arith;
    })
    (moved_stack lane end c.args.from after c.args.to (floor - width) (end - width) _ _ new.rows
    lanes.stacks.rows (omega arith)
    (λ k less.
    let there : after + k ≡ end + k - by = omega arith in
    ap (λ row. value_at lane new.rows row) there ∙
    c.move_down.ensures.inside lane (end + k) below inside (omega arith) (omega arith)
    (omega (arith, less)))
    (omega arith) (omega arith)
    (λ row less. c.move_down.ensures.below lane row below inside (omega (arith, less))))

pub returns-clause-outside : goal.returns-clause-outside
returns-clause-outside c = λ lane below outside.
    untouched_by c.args.lanes.now c.move_down.new.stacks _ lane
    (c.lowered-rows.ensures.outside lane below outside)
    (c.lowered-ends.ensures.outside lane below outside)
    (c.lowered-widths.ensures.outside lane below outside)
    (λ row. c.move_down.ensures.outside lane row below outside)
