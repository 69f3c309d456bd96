use Rattle.std.proofs.Common.{◌∙◌, ◌-◌, slice_set, ap, sym, arith, inl, inr}
use Rattle.std.proofs.lemmas.Bool.{cases_eq}
use Rattle.cam6_table.specs.Internal.Lanes.{value_at}
use Rattle.cam6_table.proofs.Columns.{value_put, value_of_other_row, value_kept}
use Rattle.cam6_table.proofs.lane_stacks.Stacks.fill.Goals as goal

pub loop-next-preserved : goal.loop-next-preserved
loop-next-preserved c =
    let l = c.loop-next in
    let rows = l.self.rows in
    let old = c.args.self.now.rows in
    let lane = c.args.lane in
    let at = l.next - 1 in
    let put = c.put_value.ensures in
    let row = c.put_value.new.values in
    let first = l.invariant.first in
    let last = l.invariant.last in
    let low = c.requires.low in
    record {
      first = omega arith;
      last = omega arith;
      len = l.invariant.len;
      filled = λ here from less.
          elim (cases_eq here at) [
            | inl same ↦
                ap (λ j. value_at lane (slice_set rows at row) j) same ∙
                value_put rows at row lane (omega arith) ∙ put.here ∙
                l.invariant.below (at - c.args.width) (omega arith) ∙
                ap (λ j. value_at lane old (j - c.args.width)) (sym same)
            | inr other ↦
                value_of_other_row rows at row lane here other ∙
                l.invariant.filled here (omega (arith, from, other)) less
          ];
      below = λ here less.
          value_of_other_row rows at row lane here (omega (arith, less)) ∙
          l.invariant.below here (omega (arith, less));
      above = λ here more.
          value_of_other_row rows at row lane here (omega (arith, more)) ∙
          l.invariant.above here more;
      others = λ other here apart.
          value_kept rows at row other here (omega arith) (put.others other apart) ∙
          l.invariant.others other here apart;
    }
