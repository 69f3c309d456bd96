use Rattle.std.proofs.Common.{arith, subst, Result, ℕ}
use Rattle.cam6_table.specs.declared.lane_stacks.NotInAllLanes.{NotInAllLanes}
use Rattle.cam6_table.specs.Internal.Lanes.{StepsIn}
use Rattle.cam6_table.proofs.StepByStep.{one_more, within_then}
use Rattle.cam6_table.proofs.straight.run_straight.Goals as goal

pub loop-remaining-preserved : goal.loop-remaining-preserved
loop-remaining-preserved c =
    let l = c.loop-remaining in
    let within = c.requires.within in
    let falls = l.invariant.falls in
    let step = c.in-Ok.ensures in
    let to = c.saturating_sub-remaining.ensures in
    record {
      falls = omega arith;
      narrows = within_then _ _ _ l.invariant.narrows c.step.ensures.narrows;
      holds = c.step.ensures.holds;
      floors = c.step.ensures.floors;
      left = one_more c.args.addresses.now c.args.code.now c.args.set.now.mask c.args.from
          c.args.lanes.now l.remaining l.lanes c.before-in-loop-remaining.result l.span c.step.new.span
          c.step.new.lanes c.in-Ok.passed c.saturating_sub-remaining.result (omega arith) (omega arith)
          c.before-in-loop-remaining.ensures to l.invariant.left
          (subst (λ (r : Result ℕ NotInAllLanes). StepsIn c.args.set.now.mask c.args.addresses.now
          c.before-in-loop-remaining.result l.span l.lanes c.step.new.span c.step.new.lanes r)
          c.in-Ok.is c.step.ensures);
    }
