use Rattle.cam6_server.proofs.FirstLines.{reads_first, without_room}
use Rattle.cam6_server.proofs.connections.first_line.Goals as goal

pub returns-in-Ended-clause-read : goal.returns-in-Ended-clause-read
returns-in-Ended-clause-read g c =
    reads_first c.answerable.result c.next_line_within.new.line c.answerable.ensures.said
    c.next_line_within.result (g.R.Read.remaining c.args.reader.now)
    (g.R.Read.remaining c.next_line_within.new.reader) c.in-Ended.is
    c.next_line_within.ensures.line

pub returns-clause-read : goal.returns-clause-read
returns-clause-read g c =
    without_room c.next_line_within.new.line _ _ c.in-NoMemory.ensures.line
