use Rattle.std.proofs.Common.{◌∙◌, arith, length-set}
use Rattle.cam6_show_frames.specs.Frame.{colour_at}
use Rattle.cam6_patterns.proofs.Filling.{filled_more}
use Rattle.cam6_patterns.proofs.Rows.{row_taken}
use Rattle.cam6_patterns.proofs.writing.row_cells.Goals as goal

pub loop-x-preserved : goal.loop-x-preserved
loop-x-preserved c = record {
  long = length-set _ _ _ ∙ c.loop-x.invariant.long;
  filled = filled_more (λ j. colour_at c.args.frame.now j c.args.y) c.loop-x.cells c.loop-x.x
      c.colour.result
      (omega (arith, c.loop-x-test.true, c.loop-x.invariant.long, c.number-x-end.ensures.most))
      c.loop-x.invariant.filled c.colour.ensures.value;
}

pub returns : goal.returns
returns c =
    row_taken c.args.frame.now c.side.ensures.frame c.args.y c.loop-x.cells c.requires
    c.loop-x.invariant.long
    (λ j h. c.loop-x.invariant.filled j
    (omega (arith, h, c.loop-x-test.false, c.number-x-end.ensures.value, c.side.ensures.side)))
