use Rattle.std.proofs.Common.{◌≡◌, ◌∙◌, sym, arith, ◌+◌, ◌-◌, suc}
use Rattle.cam6_wiring.specs.Seen.{shown}
use Rattle.cam6_table.specs.Codes.{last_of, steps_of}
use Rattle.cam6_table.proofs.Jumps.{exec-goes_on, steps-go_on}
use Rattle.cam6_table.proofs.evaluation.run.Goals as goal

pub loop-remaining-preserved : goal.loop-remaining-preserved
loop-remaining-preserved c =
    let shows = shown c.args.address in
    let code = c.args.code.now in
    let l = c.loop-remaining in
    let next = c.in_ok-next.next in
    let front = c.before-in-loop-remaining.ensures in
    let one : l.remaining ≡ l.remaining - 1 + 1 = omega arith in
    let fewer = c.saturating_sub-remaining.ensures in
    let after = c.saturating_sub-remaining.result in
    let stepped : steps_of shows (last_of l.remaining code) 0 l.word l.state ≡
    suc (steps_of shows (last_of after code) 0 next.word c.act.new.state) =
    steps-go_on shows code l.remaining (l.remaining - 1) after l.word c.before-in-loop-remaining.result
    l.state c.act.new.state next one (omega arith) fewer front c.in_ok-next.ensures in
    record {
      same = sym (exec-goes_on shows code l.remaining (l.remaining - 1) after l.word
          c.before-in-loop-remaining.result l.state c.act.new.state next one (omega arith) fewer front
          c.in_ok-next.ensures) ∙ l.invariant.same;
      stepped = omega arith;
      within = omega arith;
      left = omega arith;
      limit = omega arith;
    }
