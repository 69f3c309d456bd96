use Rattle.std.proofs.Common.{◌∙◌, arith, length-set, ◌&&◌, get_or}
use Rattle.cam6_program.proofs.Combined.{and_column, one_more}
use Rattle.cam6_program.proofs.operations.put_and.Goals as goal

pub loop-k-preserved : goal.loop-k-preserved
loop-k-preserved c =
    let now = c.loop-k in (
      length-set _ _ _ ∙ now.invariant.0,
      one_more (λ a b. a && b) c.args.first.now c.args.second.now now.out now.k _
          (omega (arith, now.invariant.0))
          (λ x h. and_column (get_or c.args.first.now now.k 0) (get_or c.args.second.now now.k 0) x)
          now.invariant.1,
    )
