-- How a worker ends.
use Rattle.std.specs.Prelude.{ℕ, ◌<◌, ◌≤◌}
use Rattle.cam6_pool.specs.declared.workers.Ended.{Ended}
use Rattle.cam6_pool.specs.declared.workers.Ended.TheVariants.{Stopped, Dead}

-- by how often its board had failed before and after: dead only if it failed once more at least
abbrev pub EndsBy : Ended → ℕ → ℕ → Type 0
EndsBy Stopped before after = before ≤ after
EndsBy Dead before after = before < after
