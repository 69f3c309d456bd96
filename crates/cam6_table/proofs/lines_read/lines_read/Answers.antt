use Rattle.std.proofs.Common.{sym, subst}
use Rattle.cam6_table.specs.Codes.{last_of}
use Rattle.cam6_table.specs.Internal.LinesRead.{HasLinesOf}
use Rattle.cam6_table.proofs.LinesRead.{has_lines_still}
use Rattle.cam6_table.proofs.lines_read.lines_read.Goals as goal

pub loop-remaining-preserved : goal.loop-remaining-preserved
loop-remaining-preserved c =
    let l = c.loop-remaining in
    let mask = c.with_line_of-mask.result in
    let done = c.with_line_of-mask.ensures in
    record {
      lower = done.others 0 l.invariant.lower;
      upper = done.others 1 l.invariant.upper;
      lines = subst (HasLinesOf mask) (sym c.before-in-loop-remaining.ensures) (
        done.line,
        has_lines_still l.mask mask done.others
            (last_of l.remaining c.instructions-instructions.result.now) l.invariant.lines,
      );
    }
