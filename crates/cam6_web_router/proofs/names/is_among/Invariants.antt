use Rattle.std.proofs.Common.{◌≡◌, ◌<◌, ℕ, get_or}
use Rattle.cam6_web_router.proofs.names.is_among.Given as goal

abbrev pub invariant-loop-each : goal.invariant-loop-each
invariant-loop-each l = (k : ℕ) → k < l.each-index → get_or l.texts k l.text ≡ l.text → ⊥
