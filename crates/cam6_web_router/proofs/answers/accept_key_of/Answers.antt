use Rattle.std.proofs.Common.{rules}
use Rattle.cam6_web_router.proofs.answers.accept_key_of.Goals as goal

pub returns-in-Ok-clause-some : goal.returns-in-Ok-clause-some
returns-in-Ok-clause-some c = (
  c.in-Some.key.now,
  record { method = search rules; asks = search rules; says = search rules; valid = search rules },
  search rules,
)
