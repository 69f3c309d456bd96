use Rattle.std.proofs.Common.{arith, sym, ap, ◌∙◌, Ok}
use Rattle.cam6_patterns.specs.Body.{whole_rows}
use Rattle.cam6_patterns.specs.Reading.{with_rows}
use Rattle.cam6_patterns.specs.Outcome.{boxed, bounds_of}
use Rattle.cam6_patterns.proofs.Stages.{cells_more, cells_over, cells_end}
use Rattle.cam6_patterns.proofs.reading.read_rows.Goals as goal

pub loop-line-preserved : goal.loop-line-preserved
loop-line-preserved c = record {
  counted = omega (arith, c.in-Some.ensures.less);
  same = λ side.
      cells_more side c.args.states c.loop-line.count c.loop-line.rest.now (boxed c.args.extent)
      (bounds_of c.args.extent c.args.states) c.loop-line.cells _
      (c.loop-line.invariant.same side) c.in-Some.line.now c.in-Some.later.now
      c.in-Some.ensures.line c.read_line.new.self
      (rw c.in-Ok-More.field-0-is at c.in-Ok-More.ensures);
}

pub returns-in-Ok-Over : goal.returns-in-Ok-Over
returns-in-Ok-Over c =
    λ side. cells_over side c.args.states c.loop-line.count c.loop-line.rest.now
    (boxed c.args.extent) (bounds_of c.args.extent c.args.states) c.loop-line.cells _
    (c.loop-line.invariant.same side) c.in-Some.line.now c.in-Some.later.now
    c.in-Some.ensures.line (whole_rows c.read_line.new.self)
    (rw c.in-Ok-Over.field-0-is at c.in-Ok-Over.ensures)
    ∙ ap (λ rows. Ok (with_rows (boxed c.args.extent) rows)) (sym c.in_ok-rows-in-Ok-Over.ensures)

pub returns : goal.returns
returns c =
    λ side. rw c.fault.ensures
    (cells_end side c.args.states c.loop-line.count c.loop-line.rest.now (boxed c.args.extent)
    (bounds_of c.args.extent c.args.states) c.loop-line.cells _
    (c.loop-line.invariant.same side) c.in_default.ensures.line)
