use Rattle.std.proofs.Common.{◌≡◌, ◌∙◌, ◌+◌, ◌-◌, slice_index, ap, arith}
use Rattle.cam6_table.specs.Internal.Lanes.{floor_of, end_of, width_of, value_at}
use Rattle.cam6_table.proofs.Gaps.{moved_stack}
use Rattle.cam6_table.proofs.Moving.{kept_by, kept_then, untouched_by, untouched_then}
use Rattle.cam6_table.proofs.levels.raise_stacks.Goals as goal

pub returns-clause-inside : goal.returns-clause-inside
returns-clause-inside c = λ lane below inside stands.
    let cut = c.begin_gaps.new.lanes in
    let new = c.move_up.new.stacks in
    let first = c.begin_gaps.ensures.inside lane below inside stands in
    let deep = first.stands.deep in
    let begins = first.stands.begins in
    let in_place = first.stands.in_place in
    let high = first.stands.high in
    let floor = floor_of lane cut.floors in
    let end = end_of lane cut.floors in
    let width = width_of lane cut.floors in
    let up = c.requires.up in
    let to = c.requires.to in
    let by = c.args.to - c.args.from in
    let rows = c.raised-rows.ensures.inside lane below inside (omega arith) in
    let ends = c.raised-ends.ensures.inside lane below inside (omega arith) in
    let widths = c.raised-widths.ensures.inside lane below inside (omega arith) in
    let after = slice_index c.raised-ends.result lane in
    kept_then c.args.lanes.now cut _ lane c.args.from c.args.from c.args.to first
    (kept_by cut new _ lane c.args.from c.args.to
    (record {
      deep = omega arith;
      begins = omega arith;
      in_place = omega arith;
      high = omega arith;
      within = to;
    })
    (moved_stack lane end c.args.from after c.args.to (floor - width) (end - width) _ _ new.rows
    cut.stacks.rows (omega arith)
    (λ k less.
    let there : after + k ≡ end + k + by = omega arith in
    ap (λ row. value_at lane new.rows row) there ∙
    c.move_up.ensures.inside lane (end + k) below inside (omega arith) (omega (arith, less)))
    (omega arith) (omega arith)
    (λ row less. c.move_up.ensures.below lane row below inside (omega (arith, less)))))

pub returns-clause-outside : goal.returns-clause-outside
returns-clause-outside c = λ lane below outside.
    untouched_then c.args.lanes.now c.begin_gaps.new.lanes _ lane (c.begin_gaps.ensures.outside lane below outside)
    (untouched_by c.begin_gaps.new.lanes c.move_up.new.stacks _ lane
    (c.raised-rows.ensures.outside lane below outside)
    (c.raised-ends.ensures.outside lane below outside)
    (c.raised-widths.ensures.outside lane below outside)
    (λ row. c.move_up.ensures.outside lane row below outside))
