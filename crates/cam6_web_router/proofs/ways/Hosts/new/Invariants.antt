use Rattle.std.proofs.Common.{◌≤◌, ◌-◌, length}
use Rattle.cam6_web_router.specs.Ways.{ArePaths}
use Rattle.cam6_web_router.proofs.ways.Hosts.new.Given as goal

abbrev pub invariant-loop-paths : goal.invariant-loop-paths
invariant-loop-paths l = ArePaths l.paths.items × (length l.paths.items ≤ l.count)

abbrev pub decreases-loop-paths : goal.decreases-loop-paths
decreases-loop-paths l = l.count - length l.paths.items
