use Rattle.cam6_show_frames.proofs.Saying.{value_found, no_value}
use Rattle.cam6_show_frames.proofs.replies.line_value.Goals as goal

pub returns-in-Ok-clause-value : goal.returns-in-Ok-clause-value
returns-in-Ok-clause-value c =
    value_found c.args.line.now _ c.in-Ok.ensures.ok.0 c.in-Ok.ensures.ok.1

pub returns-in_default-clause-no_reply : goal.returns-in_default-clause-no_reply
returns-in_default-clause-no_reply c = λ none.
    no_value c.args.line.now
    (c.in-Err.ensures.err (λ m. c.in_default.not-Memory (c.classify.ensures.memory.1 m)))
