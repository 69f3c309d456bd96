use Rattle.std.proofs.Common.{◌∙◌, ◌+◌, refl, sym, ap, subst, arith}
use Rattle.cam6_machine.specs.Stored.{machine_of}
use Rattle.cam6_core.specs.Internal.Starting.{AreNewcomersTo}
use Rattle.cam6_core.proofs.Starting.{one_more}
use Rattle.cam6_core.proofs.start.newcomers.Goals as goal

pub loop-user-preserved : goal.loop-user-preserved
loop-user-preserved c =
    let limits = c.args.limits.now in
    let n = c.loop-user.user in
    let r = c.new-in-loop-user.result in
    record {
      users = refl;
      limits = refl;
      long = c.loop-user.invariant.long;
      made = subst (AreNewcomersTo (n + 1) limits) (sym c.in_ok-push.ensures.items)
          (one_more n limits c.loop-user.made.items r _ c.loop-user.invariant.made
          (omega (arith, c.loop-user-test.true, c.loop-user.invariant.long))
          (ap machine_of c.new-in-loop-user.ensures ∙ c.in_ok-machine.ensures.machine));
    }
