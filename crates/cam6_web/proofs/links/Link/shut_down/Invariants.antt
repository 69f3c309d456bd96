use Rattle.std.proofs.Common.{◌-◌}
use Rattle.cam6_web.proofs.links.Link.shut_down.Given as goal

-- each round drops a byte at least
abbrev pub decreases-loop-drained : goal.decreases-loop-drained
decreases-loop-drained g l = 4194304 - l.drained
