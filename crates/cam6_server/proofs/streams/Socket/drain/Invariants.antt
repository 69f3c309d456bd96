use Rattle.std.proofs.Common.{◌-◌}
use Rattle.cam6_server.proofs.streams.Socket.drain.Given as goal

-- each round drops a byte at least
abbrev pub decreases-loop-drained : goal.decreases-loop-drained
decreases-loop-drained g l = 1048576 - l.drained
