use Rattle.std.proofs.Common.{arith}
use Rattle.cam6_wire.proofs.Saying.{value_found, no_value}
use Rattle.cam6_wire.proofs.commands.line_value.Goals as goal

pub returns-in-Ok-clause-value : goal.returns-in-Ok-clause-value
returns-in-Ok-clause-value c = (
  omega (arith, c.if-line-limit.false, c.line_limit-limit.ensures),
  value_found c.args.line.now _ c.in-Ok.ensures.ok.0 c.in-Ok.ensures.ok.1,
)

pub returns-in_default-clause-fault : goal.returns-in_default-clause-fault
returns-in_default-clause-fault c = (
  omega (arith, c.if-line-limit.false, c.line_limit-limit.ensures),
  no_value c.args.line.now
      (c.in-Err.ensures.err (λ m. c.in_default.not-Memory (c.classify.ensures.memory.1 m))),
)
