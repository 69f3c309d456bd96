use Rattle.std.proofs.Common.{◌≡◌, ◌<◌, ℕ, [], get_or}
use Rattle.cam6_planes.proofs.planes.copy_rows.Given as goal

abbrev pub invariant-loop-y : goal.invariant-loop-y
invariant-loop-y l = (v : ℕ) → v < l.y → get_or l.to v [] ≡ get_or l.from v []
