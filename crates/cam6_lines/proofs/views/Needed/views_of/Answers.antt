use Rattle.std.proofs.Common.{◌==◌, None, get_or, subst, arith, length-set, ◌∙◌}
use Rattle.std.specs.Int.{bit_at}
use Rattle.cam6_lines.specs.Internal.Views.{IsSeen}
use Rattle.cam6_lines.proofs.LineByLine.{one_more}
use Rattle.cam6_lines.proofs.SeenParts.{still_seen}
use Rattle.cam6_lines.proofs.views.Needed.views_of.Goals as goal

pub loop-k-preserved : goal.loop-k-preserved
loop-k-preserved c =
    let a = c.args in
    let now = c.loop-k in
    let made = c.view_of in
    record {
      long = length-set _ _ _ ∙ now.invariant.long;
      few = omega (arith, made.ensures.more, now.invariant.few);
      seen = one_more (λ j view. IsSeen made.new.self (bit_at a.asked j == 1)
          (get_or a.names.now j None) view) now.views None made.result now.k
          (omega (arith, now.invariant.long))
          (λ j h. still_seen now.self made.new.self _ _ _ made.ensures.kept
          (now.invariant.seen j h))
          (subst (λ b. IsSeen made.new.self b (get_or a.names.now now.k None) made.result)
          c.is_asked.ensures made.ensures.seen);
    }
