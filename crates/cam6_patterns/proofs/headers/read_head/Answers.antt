use Rattle.std.proofs.Common.{sym, ◌∙◌}
use Rattle.cam6_patterns.specs.Header.{extents_in}
use Rattle.cam6_patterns.proofs.Heads.{header_comes}
use Rattle.cam6_patterns.proofs.headers.read_head.Goals as goal

pub returns : goal.returns
returns c =
    λ states. header_comes _ states c.args.number c.args.corner c.in-Some.first.now _
    c.args.line.now c.check_header.result c.in-Some.ensures.cases.0 c.if-first-eq35.false
    (rw c.past_blanks.ensures at (sym c.is_empty.ensures ∙ c.if-is_empty.false))
    (c.check_header.ensures states (extents_in c.args.line.now) c.extents_in.ensures)
