use Rattle.std.proofs.Common.{◌∙◌, arith, length-set, not, ◌||◌, get_or, ap, ◌-◌}
use Rattle.cam6_planes.specs.Row.{word_column}
use Rattle.cam6_program.proofs.Combined.{or_column, not_column, one_more}
use Rattle.cam6_program.proofs.operations.put_or_not.Goals as goal

pub loop-k-preserved : goal.loop-k-preserved
loop-k-preserved c =
    let now = c.loop-k in (
      length-set _ _ _ ∙ now.invariant.0,
      one_more (λ a b. a || not b) c.args.first.now c.args.second.now now.out now.k _
          (omega (arith, now.invariant.0))
          (λ x h. or_column (get_or c.args.first.now now.k 0)
          (18446744073709551615 - get_or c.args.second.now now.k 0) x ∙
          ap (λ b. word_column (get_or c.args.first.now now.k 0) x || b)
          (not_column (get_or c.args.second.now now.k 0) x (omega (arith, c.type_inv.second))))
          now.invariant.1,
    )
