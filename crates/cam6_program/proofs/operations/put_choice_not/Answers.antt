use Rattle.std.proofs.Common.{◌∙◌, arith, length-set, not, if◌then◌else◌, get_or, ap, ◌-◌}
use Rattle.cam6_planes.specs.Row.{word_column}
use Rattle.cam6_program.proofs.Combined.{choice_column, not_column, one_more_of_three}
use Rattle.cam6_program.proofs.operations.put_choice_not.Goals as goal

pub loop-k-preserved : goal.loop-k-preserved
loop-k-preserved c =
    let now = c.loop-k in (
      length-set _ _ _ ∙ now.invariant.0,
      one_more_of_three (λ by low high. if by then not high else low) c.args.by.now c.args.low.now
          c.args.high.now now.out now.k _ (omega (arith, now.invariant.0))
          (λ x h. choice_column (get_or c.args.by.now now.k 0) (get_or c.args.low.now now.k 0)
          (18446744073709551615 - get_or c.args.high.now now.k 0) x ∙
          ap (λ b. if word_column (get_or c.args.by.now now.k 0) x then b
          else word_column (get_or c.args.low.now now.k 0) x)
          (not_column (get_or c.args.high.now now.k 0) x (omega (arith, c.type_inv.high))))
          now.invariant.1,
    )
