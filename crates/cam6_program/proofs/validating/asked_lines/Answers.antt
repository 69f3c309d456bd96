use Rattle.std.proofs.Common.{◌∙◌, arith, length-set}
use Rattle.cam6_program.proofs.AddressLines.{one_more_line, asked_shown}
use Rattle.cam6_program.proofs.validating.asked_lines.Goals as goal

pub loop-line-preserved : goal.loop-line-preserved
loop-line-preserved c =
    let now = c.loop-line in
    record {
      twelve = length-set _ _ _ ∙ now.invariant.twelve;
      shown = one_more_line c.args.asked now.lines now.line c.asked_line.result
          (omega (arith, now.invariant.twelve)) now.invariant.shown c.asked_line.ensures;
    }

pub returns : goal.returns
returns c = λ bits long.
    asked_shown c.args.asked c.loop-line.lines c.loop-line.invariant.twelve
    (λ line address h within. c.loop-line.invariant.shown line address (omega (arith, h)) within)
    bits long
