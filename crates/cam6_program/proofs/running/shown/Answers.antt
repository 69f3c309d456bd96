use Rattle.std.proofs.Common.{arith, ◌∙◌}
use Rattle.cam6_program.proofs.Columns.{shown_line, no_line}
use Rattle.cam6_program.proofs.running.shown.Goals as goal

pub returns-then-line-lt-LINES : goal.returns-then-line-lt-LINES
returns-then-line-lt-LINES c = λ x h.
    shown_line c.args.lines.now _ c.args.line x
    (omega (arith, c.told-lines, c.if-line-lt-LINES.true))

pub returns-else-line-lt-LINES : goal.returns-else-line-lt-LINES
returns-else-line-lt-LINES c = λ x h.
    c.constant.ensures x h ∙
    no_line c.args.lines.now c.args.line x (omega (arith, c.told-lines, c.if-line-lt-LINES.false))
