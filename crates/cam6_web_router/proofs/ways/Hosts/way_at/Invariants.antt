use Rattle.std.proofs.Common.{◌≡◌, ◌+◌, ◌<◌, ◌≤◌, ◌-◌, ℕ, length}
use Rattle.cam6_web_router.specs.Ways.{path_to_host}
use Rattle.cam6_web_router.proofs.ways.Hosts.way_at.Given as goal

abbrev pub invariant-loop-index : goal.invariant-loop-index
invariant-loop-index l =
    (l.index ≤ length l.self-inside.paths.items)
    × ((k : ℕ) → k < l.index → l.path ≡ path_to_host (k + 1) → ⊥)

abbrev pub decreases-loop-index : goal.decreases-loop-index
decreases-loop-index l = length l.self-inside.paths.items - l.index
