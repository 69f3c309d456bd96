use Rattle.std.proofs.Common.{arith}
use Rattle.cam6_show_frames.proofs.FirstLine.{reads_line}
use Rattle.cam6_show_frames.proofs.lines.read_line.Goals as goal

pub returns-in-Ok : goal.returns-in-Ok
returns-in-Ok g c =
    reads_line (g.R.Read.remaining c.args.reader.now) (g.R.Read.remaining c.read_until.new.self)
    c.read_until.new.buf.items c.strip_lf.new.line.items
    (omega (arith, c.in-Ok.ensures.ok, c.in-Ok.field-0-test.1, c.read_until.new.buf.ok.0))
    c.strip_lf.ensures (rw c.clear.ensures.items at c.in-Ok.ensures.bytes) c.in-Ok.ensures.rest
