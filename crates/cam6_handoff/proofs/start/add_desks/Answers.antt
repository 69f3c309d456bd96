use Rattle.std.proofs.Common.{◌∙◌, ◌+◌, refl, sym, subst}
use Rattle.cam6_handoff.specs.Boot.{AreBlankDesksTo}
use Rattle.cam6_handoff.proofs.Counting.{one_more_desk}
use Rattle.cam6_handoff.proofs.start.add_desks.Goals as goal

pub loop-row-preserved : goal.loop-row-preserved
loop-row-preserved c =
    let limits = c.args.limits.now in
    let n = c.loop-row.row in
    let desks = c.loop-row.desks.items in
    record {
      same = c.in_ok-desk.ensures.of ∙ c.loop-row.invariant.same;
      next = c.in_ok-desk.ensures.next;
      limits = refl;
      made = subst (AreBlankDesksTo (n + 1) limits) (sym c.in_ok-push.ensures.items)
          (one_more_desk n limits desks _ _ c.loop-row.invariant.made c.loop-row-test.true
          c.in_ok-desk.ensures.desk);
    }
