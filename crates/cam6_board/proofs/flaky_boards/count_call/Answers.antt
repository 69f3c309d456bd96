use Rattle.std.proofs.Common.{◌∙◌, ◌-◌, ap, arith, get_or, set}
use Rattle.cam6_board.proofs.Calls.{next_call}
use Rattle.cam6_board.proofs.flaky_boards.count_call.Goals as goal

pub loop-index-preserved : goal.loop-index-preserved
loop-index-preserved c =
    let i = c.loop-index.index in
    ap (λ l. set l i c.saturating_sub.result) c.loop-index.invariant ∙
    next_call c.args.due.now.items i c.saturating_sub.result c.index.result.now
    (omega (arith, c.loop-index-test.true, c.len-index-end.ensures, c.args.due.now.ok))
    (c.saturating_sub.ensures ∙ ap (λ v. v - 1) c.index.ensures ∙ ap (λ l. get_or l i c.index.result.now - 1) c.loop-index.invariant)
