use Rattle.std.proofs.Common.{arith, sym}
use Rattle.cam6_planes.specs.Side.{side_number}
use Rattle.cam6_patterns.specs.Body.{nothing_read}
use Rattle.cam6_patterns.specs.Reading.{pattern_in, before, within}
use Rattle.cam6_patterns.specs.Outcome.{boxed, bounds_of}
use Rattle.cam6_patterns.proofs.Stages.{line_more}
use Rattle.cam6_patterns.proofs.reading.find_box.Goals as goal

pub loop-line-preserved : goal.loop-line-preserved
loop-line-preserved c = record {
  counted = omega (arith, c.in-Some.ensures.less);
  same = λ states.
      line_more (side_number c.args.side) states c.loop-line.count c.loop-line.rest.now
      c.in-Some.line.now c.in-Some.later.now (before c.loop-line.corner) c.in-Some.ensures.line
      (before c.in-Before.found) _ (rw c.in-Before.is at (c.in_ok-found.ensures states))
      (c.loop-line.invariant.same states);
}

pub returns-in-Within-clause-start : goal.returns-in-Within-clause-start
unfolding pattern_in
returns-in-Within-clause-start c =
    λ states. sym
    (line_more (side_number c.args.side) states c.loop-line.count c.loop-line.rest.now
    c.in-Some.line.now c.in-Some.later.now (before c.loop-line.corner) c.in-Some.ensures.line
    (within (boxed c.in-Within.extent) (bounds_of c.in-Within.extent states) nothing_read) _
    (rw c.in-Within.is at (c.in_ok-found.ensures states)) (c.loop-line.invariant.same states))
