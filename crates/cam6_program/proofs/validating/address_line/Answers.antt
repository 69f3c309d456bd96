use Rattle.std.proofs.Common.{◌∙◌, arith, length-set}
use Rattle.cam6_planes.proofs.WordByWord.{row_more}
use Rattle.cam6_wiring.specs.Seen.{shown}
use Rattle.cam6_program.proofs.validating.address_line.Goals as goal

pub loop-k-preserved : goal.loop-k-preserved
loop-k-preserved c =
    let now = c.loop-k in (
      length-set _ _ _ ∙ now.invariant.0,
      row_more (λ address. shown address c.args.line) now.unit now.k c.address_word.result
          (omega (arith, now.invariant.0)) now.invariant.1 c.address_word.ensures,
    )
